-- How a sketch goes on standing for its history.
use Rattle.std.proofs.Common.{◌≡◌, ◌≢◌, ◌<◌, ◌≤◌, ℕ, zero, suc, ◌+◌, ◌-◌, ◌==◌, ℤ, pos, List, [], ◌∷◌, ◌++◌, length, get_or, Bool, true, false, Option, Some, None, MatchOption, if◌then◌else◌, refl, sym, ap, ◌∙◌, subst, arith}
use Rattle.std.specs.Prelude.{slice_get, slice_set, replicate, All, IsSome}
use Rattle.std.proofs.lemmas.List.{get_or-set_same, get_or-set_other, get_or-replicate, length-set, length_push, length-replicate}
use Rattle.std.proofs.lemmas.Option.{get_or_from_slice_get, slice_get-get_or, slice_get_within}
use Rattle.packet_key.specs.declared.key.FlowKey.{FlowKey}
use Rattle.hash_rows.specs.declared.shape.Update.{Update}
use Rattle.hash_rows.specs.declared.shape.Push.{Push}
use Rattle.hash_rows.specs.Rules.{Rules, AreLaws}
use Rattle.push_history.specs.Whole.{whole_of, whole}
use Rattle.push_history.specs.Told.{told_of}
use Rattle.push_history.specs.Residue.{residue}
use Rattle.push_history.specs.Pushes.{ArePushes, is_refused}
use Rattle.push_history.proofs.Joins.{whole_push, told_push}
use Rattle.push_history.proofs.Growing.{pushes_refused, pushes_sent, numbers_within, told_all, whole_all, refused_other, refused_same}
use Rattle.push_rule.specs.Stands.{counted_of, PrivateView, StandsAt, StandsFor, Waits}

-- what was put at the place
put_same : {X : Type 0} (xs : List X) (i : ℕ) (y x : X) → slice_get (slice_set xs i y) i ≡ Some x → x ≡ y
put_same xs i y x is =
    let within : i < length xs = omega (arith, slice_get_within (slice_set xs i y) i x is, length-set xs i y) in
    sym (get_or_from_slice_get (slice_set xs i y) i x x is) ∙ get_or-set_same xs i y x within

-- what stands at another place
put_other : {X : Type 0} (xs : List X) (i k : ℕ) (y x : X) → k ≢ i → slice_get (slice_set xs i y) k ≡ Some x → slice_get xs k ≡ Some x
put_other xs i k y x ne is =
    let within : k < length xs = omega (arith, slice_get_within (slice_set xs i y) k x is, length-set xs i y) in
    slice_get-get_or xs k x within ∙ ap (λ z. Some z) (sym (get_or-set_other xs i k y x ne) ∙ get_or_from_slice_get (slice_set xs i y) k x x is)

-- the cell that is due
pub due_cell : (due : Option ℕ) → IsSome due → (cell : ℕ) × (due ≡ Some cell)
due_cell None some = absurd (cc)
due_cell (Some cell) some = (cell, refl)

-- nothing was counted
pub stands_fresh : {H : Type 0} (stands : H → ℤ → ℤ → Type 0) (r : Rules) (p : PrivateView H) (fresh : H) (cells : ℕ) → stands fresh (pos 0) (pos 0)
    → p.held ≡ replicate cells fresh → p.counted ≡ 0 → p.due ≡ None → p.bits ≡ replicate p.room false → StandsFor stands r p [] [] []
unfolding told_of whole_of
stands_fresh {H} stands r p fresh cells stands_zero held counted idle bits = record {
  all_counted = counted;
  cells = λ cell h is.
      let at : slice_get (replicate cells fresh) cell ≡ Some h = subst (λ (xs : List H). slice_get xs cell ≡ Some h) held is in
      let within : cell < cells = omega (arith, slice_get_within (replicate cells fresh) cell h at, length-replicate cells fresh) in
      subst (λ (x : H). stands x (pos 0) (pos 0)) (sym (get_or-replicate cells cell fresh h within) ∙ get_or_from_slice_get (replicate cells fresh) cell h h at) stands_zero;
  marks = λ k. ap (λ (xs : List Bool). get_or xs k false) bits ∙ all_clear p.room k;
  pushes = rw idle (record {
    rising = λ k lt. absurd (omega (arith, lt));
    amounts = λ k d lt. absurd (omega (arith, lt));
    refused_rising = λ k lt. absurd (omega (arith, lt));
    refused_within = λ k d lt. absurd (omega (arith, lt));
    reached = λ k lt is. absurd (omega (arith, lt));
    below = λ k lt is. absurd (omega (arith, lt));
    apart = λ k sent. refl;
  });
}
  where
    all_clear : (n k : ℕ) → get_or (replicate n false) k false ≡ false
    all_clear zero k = refl
    all_clear (suc n) zero = refl
    all_clear (suc n) (suc k) = all_clear n k

stands_by : {H : Type 0} (stands : H → ℤ → ℤ → Type 0) (r : Rules) (old : List H) (u : Update) (h : H) (U : List Update) (S : List Push)
    → ((told whole : ℤ) → StandsAt stands old u.cell told whole → stands h told (r.join whole u.value))
    → ((cell : ℕ) → StandsAt stands old cell (told_of r cell S) (whole_of r cell U))
    → (k : ℕ) (b : Bool) → (u.cell == k) ≡ b → (x : H) → slice_get (slice_set old u.cell h) k ≡ Some x
    → stands x (told_of r k S) (if b then r.join (whole_of r k U) u.value else whole_of r k U)
stands_by {H} stands r old u h U S counts cells k true same x is =
    let e : u.cell ≡ k = grind arith in
    let x_is : x ≡ h = put_same old u.cell h x (subst (λ (n : ℕ). slice_get (slice_set old u.cell h) n ≡ Some x) (sym e) is) in
    subst (λ (n : ℕ). stands x (told_of r n S) (r.join (whole_of r n U) u.value)) e
    (subst (λ (y : H). stands y (told_of r u.cell S) (r.join (whole_of r u.cell U) u.value)) (sym x_is) (counts _ _ (cells u.cell)))
stands_by stands r old u h U S counts cells k false other x is =
    let ne : k ≢ u.cell = (λ e. let yes : (u.cell == k) ≡ true = grind arith in let no : true ≡ false = sym yes ∙ other in absurd (cc)) in
    cells k x (put_other old u.cell k h x ne is)

-- one more update of a cell
pub stands_counted : {H : Type 0} (stands : H → ℤ → ℤ → Type 0) (r : Rules) (old new : PrivateView H) (u : Update) (h : H) (U : List Update) (S : List Push) (F : List ℕ)
    → StandsFor stands r old U S F
    → ((told whole : ℤ) → StandsAt stands old.held u.cell told whole → stands h told (r.join whole u.value))
    → new.held ≡ slice_set old.held u.cell h → new.counted ≡ old.counted + 1 → new.bits ≡ old.bits
    → MatchOption new.due (ArePushes r new.threshold (U ++ u ∷ []) S F) (Waits r new.threshold (U ++ u ∷ []) S F)
    → StandsFor stands r new (U ++ u ∷ []) S F
stands_counted {H} stands r old new u h U S F was counts held counted bits pushes = record {
  all_counted = omega (arith, counted, was.all_counted, length_push U u);
  cells = λ k x is. subst (λ (z : ℤ). stands x (told_of r k S) z) (sym (whole_push r k U u))
      (stands_by stands r old.held u h U S counts was.cells k (u.cell == k) refl x (subst (λ (xs : List H). slice_get xs k ≡ Some x) held is));
  marks = λ k. ap (λ (xs : List Bool). get_or xs k false) bits ∙ was.marks k;
  pushes = pushes;
}

-- the whole of the last update's own cell
pub whole_own : (r : Rules) (U : List Update) (u : Update) → whole_of r u.cell (U ++ u ∷ []) ≡ r.join (whole_of r u.cell U) u.value
whole_own r U u =
    let yes : (u.cell == u.cell) ≡ true = grind arith in
    let h = whole_push r u.cell U u in
    rw yes at h

-- the marks, with one more refused update
mark_by : (bits : List Bool) (n k : ℕ) (F : List ℕ) (b : Bool) → (n == k) ≡ b → n < length bits → get_or bits k false ≡ is_refused k F
    → get_or (slice_set bits n true) k false ≡ is_refused k (F ++ n ∷ [])
mark_by bits n k F true same within was =
    let e : n ≡ k = grind arith in
    subst (λ (j : ℕ). get_or (slice_set bits n true) j false ≡ is_refused j (F ++ n ∷ [])) e (get_or-set_same bits n true false within ∙ sym (refused_same n F))
mark_by bits n k F false other within was =
    let ne : n ≢ k = (λ e. let yes : (n == k) ≡ true = grind arith in let no : true ≡ false = sym yes ∙ other in absurd (cc)) in
    let back : k ≢ n = λ e. ne (sym e) in
    get_or-set_other bits n k true false back ∙ was ∙ sym (refused_other k n F ne)

-- the open update of a sketch in which a cell is due
pub open_in : {H : Type 0} (stands : H → ℤ → ℤ → Type 0) (r : Rules) (p : PrivateView H) (cell : ℕ) (U : List Update) (S : List Push) (F : List ℕ)
    → StandsFor stands r p U S F → p.due ≡ Some cell → Waits r p.threshold U S F cell
open_in stands r p cell U S F was due = subst (λ (o : Option ℕ). MatchOption o (ArePushes r p.threshold U S F) (Waits r p.threshold U S F)) due was.pushes

-- the distance of the open update, by the update
far_of_last : (r : Rules) (T : ℕ) (U : List Update) (S : List Push) (F : List ℕ) (cell : ℕ) (w : Waits r T U S F cell)
    → T ≤ r.distance (told_of r w.last.cell S) (whole_of r w.last.cell (w.before ++ w.last ∷ []))
far_of_last r T U S F cell w =
    subst (λ (c : ℕ). T ≤ r.distance (told_of r c S) (whole_of r c (w.before ++ w.last ∷ []))) (sym w.its_cell)
    (subst (λ (t : List Update). T ≤ r.distance (told_of r cell S) (whole_of r cell t)) w.parts w.far)

-- the open update is refused
pub stands_refused : {H : Type 0} (stands : H → ℤ → ℤ → Type 0) (r : Rules) (old new : PrivateView H) (cell n : ℕ) (U : List Update) (S : List Push) (F : List ℕ)
    → StandsFor stands r old U S F → old.due ≡ Some cell → n ≡ old.counted - 1 → n < length old.bits
    → new.held ≡ old.held → new.threshold ≡ old.threshold → new.counted ≡ old.counted → new.due ≡ None → new.bits ≡ slice_set old.bits n true
    → StandsFor stands r new U S (F ++ n ∷ [])
stands_refused {H} stands r old new cell n U S F was due n_is within held threshold counted idle bits =
    let w : Waits r old.threshold U S F cell = open_in stands r old cell U S F was due in
    let last : n ≡ length w.before = omega (arith, n_is, was.all_counted, ap length w.parts, length_push w.before w.last) in
    record {
      all_counted = counted ∙ was.all_counted;
      cells = λ k x is. was.cells k x (subst (λ (xs : List H). slice_get xs k ≡ Some x) held is);
      marks = λ k. ap (λ (xs : List Bool). get_or xs k false) bits ∙ mark_by old.bits n k F (n == k) refl within (was.marks k);
      pushes = rw (idle, threshold) (subst (λ (t : List Update). ArePushes r old.threshold t S (F ++ n ∷ [])) (sym w.parts)
          (subst (λ (j : ℕ). ArePushes r old.threshold (w.before ++ w.last ∷ []) S (F ++ j ∷ [])) (sym last)
          (pushes_refused r old.threshold w.before w.last S F w.pushes (far_of_last r old.threshold U S F cell w))));
    }

-- the laws that tie what is held to values
abbrev pub HoldsValues : {H : Type 0} → (H → ℤ → ℤ → Type 0) → Rules → Type 0
HoldsValues {H} stands r = (h : H) (told whole : ℤ) → stands h told whole → (r.is_value told ≡ true) × (r.is_value whole ≡ true) × (r.is_behind told whole ≡ true)

sent_by : {H : Type 0} (stands : H → ℤ → ℤ → Type 0) (r : Rules) → AreLaws r → HoldsValues stands r → (old : List H) (m : Push) (h : H) (U : List Update) (S : List Push)
    → ((told whole : ℤ) → StandsAt stands old m.cell told whole → stands h whole whole)
    → ((cell : ℕ) → StandsAt stands old cell (told_of r cell S) (whole_of r cell U))
    → m.amount ≡ r.gap (told_of r m.cell S) (whole_of r m.cell U)
    → (k : ℕ) (b : Bool) → (m.cell == k) ≡ b → (x : H) → slice_get (slice_set old m.cell h) k ≡ Some x
    → stands x (if b then r.join (told_of r k S) m.amount else told_of r k S) (whole_of r k U)
sent_by {H} stands r laws values old m h U S tells cells amount k true same x is =
    let e : m.cell ≡ k = grind arith in
    let at : slice_get (slice_set old m.cell h) m.cell ≡ Some x = subst (λ (n : ℕ). slice_get (slice_set old m.cell h) n ≡ Some x) (sym e) is in
    let x_is : x ≡ h = put_same old m.cell h x at in
    let within : m.cell < length old = omega (arith, slice_get_within (slice_set old m.cell h) m.cell x at, length-set old m.cell h) in
    let are = values _ _ _ (cells m.cell (get_or old m.cell x) (slice_get-get_or old m.cell x within)) in
    let joined : r.join (told_of r m.cell S) m.amount ≡ whole_of r m.cell U =
    ap (r.join (told_of r m.cell S)) amount ∙ laws.join_gap (told_of r m.cell S) (whole_of r m.cell U) are.0 are.1 are.2 in
    subst (λ (n : ℕ). stands x (r.join (told_of r n S) m.amount) (whole_of r n U)) e
    (subst (λ (z : ℤ). stands x z (whole_of r m.cell U)) (sym joined)
    (subst (λ (y : H). stands y (whole_of r m.cell U) (whole_of r m.cell U)) (sym x_is) (tells _ _ (cells m.cell))))
sent_by stands r laws values old m h U S tells cells amount k false other x is =
    let ne : k ≢ m.cell = (λ e. let yes : (m.cell == k) ≡ true = grind arith in let no : true ≡ false = sym yes ∙ other in absurd (cc)) in
    cells k x (put_other old m.cell k h x ne is)

-- the open update is sent
pub stands_sent : {H : Type 0} (stands : H → ℤ → ℤ → Type 0) (r : Rules) → AreLaws r → HoldsValues stands r
    → (old new : PrivateView H) (cell : ℕ) (h : H) (m : Push) (U : List Update) (S : List Push) (F : List ℕ)
    → StandsFor stands r old U S F → old.due ≡ Some cell
    → m.update ≡ old.counted - 1 → m.cell ≡ cell → m.amount ≡ r.gap (told_of r cell S) (whole_of r cell U)
    → ((told whole : ℤ) → StandsAt stands old.held cell told whole → stands h whole whole)
    → new.held ≡ slice_set old.held cell h → new.threshold ≡ old.threshold → new.counted ≡ old.counted → new.due ≡ None → new.bits ≡ old.bits
    → StandsFor stands r new U (S ++ m ∷ []) F
stands_sent {H} stands r laws values old new cell h m U S F was due n_is cell_is amount tells held threshold counted idle bits =
    let w : Waits r old.threshold U S F cell = open_in stands r old cell U S F was due in
    let last : m.update ≡ length w.before = omega (arith, n_is, was.all_counted, ap length w.parts, length_push w.before w.last) in
    let its_cell : m.cell ≡ w.last.cell = cell_is ∙ sym w.its_cell in
    let its_amount : m.amount ≡ r.gap (told_of r m.cell S) (whole_of r m.cell U) = subst (λ (c : ℕ). m.amount ≡ r.gap (told_of r c S) (whole_of r c U)) (sym cell_is) amount in
    let last_amount : m.amount ≡ r.gap (told_of r w.last.cell S) (whole_of r w.last.cell (w.before ++ w.last ∷ [])) =
    subst (λ (c : ℕ). m.amount ≡ r.gap (told_of r c S) (whole_of r c (w.before ++ w.last ∷ []))) its_cell
    (subst (λ (t : List Update). m.amount ≡ r.gap (told_of r m.cell S) (whole_of r m.cell t)) w.parts its_amount) in
    let told_its : (told whole : ℤ) → StandsAt stands old.held m.cell told whole → stands h whole whole =
    subst (λ (c : ℕ). (told whole : ℤ) → StandsAt stands old.held c told whole → stands h whole whole) (sym cell_is) tells in
    record {
      all_counted = counted ∙ was.all_counted;
      cells = λ k x is. subst (λ (z : ℤ). stands x z (whole_of r k U)) (sym (told_push r k S m))
          (sent_by stands r laws values old.held m h U S told_its was.cells its_amount k (m.cell == k) refl x
          (subst (λ (c : ℕ). slice_get (slice_set old.held c h) k ≡ Some x) (sym cell_is) (subst (λ (xs : List H). slice_get xs k ≡ Some x) held is)));
      marks = λ k. ap (λ (xs : List Bool). get_or xs k false) bits ∙ was.marks k;
      pushes = rw (idle, threshold) (subst (λ (t : List Update). ArePushes r old.threshold t (S ++ m ∷ []) F) (sym w.parts)
          (pushes_sent r old.threshold w.before w.last S F m w.pushes (far_of_last r old.threshold U S F cell w) last its_cell last_amount));
    }

numbers_by : (r : Rules) (T : ℕ) (U : List Update) (S : List Push) (F : List ℕ) (due : Option ℕ) → MatchOption due (ArePushes r T U S F) (Waits r T U S F)
    → All (λ m. m.update < length U) S
numbers_by r T U S F None h = numbers_within r U S S h.amounts
numbers_by r T U S F (Some cell) h = λ k d lt. let below = numbers_within r h.before S S h.pushes.amounts k d lt in omega (arith, below, ap length h.parts, length_push h.before h.last)

-- the residue is what joins what the messages tell to what the updates make
pub residue_is : {H : Type 0} (stands : H → ℤ → ℤ → Type 0) (r : Rules) (p : PrivateView H) (cell : ℕ) (U : List Update) (S : List Push) (F : List ℕ)
    → StandsFor stands r p U S F → residue r U S (length U) cell ≡ r.gap (told_of r cell S) (whole_of r cell U)
unfolding residue
residue_is stands r p cell U S F was =
    ap (λ (z : ℤ). r.gap z (whole r U (length U) cell)) (told_all r S (length U) cell (numbers_by r p.threshold U S F p.due was.pushes))
    ∙ ap (r.gap (told_of r cell S)) (whole_all r U (length U) cell (omega arith))

-- the message of the cell that is due
pub sent_at : {H : Type 0} (stands : H → ℤ → ℤ → Type 0) (r : Rules) (new : PrivateView H) (worker packet update : ℕ) (key : FlowKey) (U : List Update) (S : List Push) (F : List ℕ)
    → (due : Option ℕ) (cell : ℕ) → due ≡ Some cell
    → StandsFor stands r new U (S ++ record { worker = worker; packet = packet; update = update; key = key; cell = cell; amount = r.gap (told_of r cell S) (whole_of r cell U) } ∷ []) F
    → MatchOption due (StandsFor stands r new U S F)
    (λ k. StandsFor stands r new U (S ++ record { worker = worker; packet = packet; update = update; key = key; cell = k; amount = r.gap (told_of r k S) (whole_of r k U) } ∷ []) F)
sent_at stands r new worker packet update key U S F due cell is stood =
    subst (λ (o : Option ℕ). MatchOption o (StandsFor stands r new U S F)
    (λ k. StandsFor stands r new U (S ++ record { worker = worker; packet = packet; update = update; key = key; cell = k; amount = r.gap (told_of r k S) (whole_of r k U) } ∷ []) F)) (sym is) stood

-- an update more is counted: its cell is due, or its change is made
pub counted_due : (room left left_now : ℕ) (due due_now : Option ℕ) (cell : ℕ) → due ≡ None → due_now ≡ Some cell → left_now ≡ left
    → counted_of room left_now due_now ≡ counted_of room left due + 1
counted_due room left left_now due due_now cell idle is same = rw (idle, is, same) refl

pub counted_set : (room left left_now : ℕ) (due due_now : Option ℕ) → due ≡ None → due_now ≡ None → left_now + 1 ≡ left → left ≤ room
    → counted_of room left_now due_now ≡ counted_of room left due + 1
counted_set room left left_now due due_now idle is one within = rw (idle, is) (omega (arith, one, within))

-- and one that was due is counted already
pub counted_settled : (room left left_now : ℕ) (due due_now : Option ℕ) (cell : ℕ) → due ≡ Some cell → due_now ≡ None → left_now + 1 ≡ left → left ≤ room
    → counted_of room left_now due_now ≡ counted_of room left due
counted_settled room left left_now due due_now cell was is one within = rw (was, is) (omega (arith, one, within))
