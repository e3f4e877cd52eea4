-- Lawful pushes go on with each update: counted alone, refused, or sent.
use Rattle.std.proofs.Common.{◌≡◌, ◌≢◌, ◌<◌, ◌≤◌, ℕ, ◌+◌, ◌==◌, ◌||◌, ℤ, pos, List, [], ◌∷◌, ◌++◌, length, Bool, true, false, nat_lt, refl, sym, ap, ◌∙◌, subst, arith, inl, inr}
use Rattle.std.specs.Prelude.{map, All}
use Rattle.std.specs.List.Sorted.{IsStrictlyIncreasing}
use Rattle.std.proofs.lemmas.List.{take-append-le, take_all, get_or_append_left, get_or_push, length_push, map_push}
use Rattle.std.proofs.lemmas.List.Elements.{All-push, All-map}
use Rattle.std.proofs.lemmas.List.Folds.{list_any-append, list_any_none}
use Rattle.hash_rows.specs.declared.shape.Update.{Update}
use Rattle.hash_rows.specs.declared.shape.Push.{Push}
use Rattle.hash_rows.specs.Rules.{Rules}
use Rattle.push_history.specs.Share.{zero_key}
use Rattle.push_history.specs.Updates.{update_at}
use Rattle.push_history.specs.Whole.{whole_of, whole}
use Rattle.push_history.specs.Told.{told_of, told, messages_before}
use Rattle.push_history.specs.Pushes.{is_sent, is_refused, distance_at, TellsAll, ArePushes}
use Rattle.push_history.proofs.Lists.{filter_kept, filter_push_no, increasing_push, last_or_before}

-- no update: what a list shows past its end
no_update : Update
no_update = record { packet = 0; key = zero_key; cell = 0; value = pos 0 }

pub update_before : (U : List Update) (u : Update) (k : ℕ) → k < length U → update_at (U ++ u ∷ []) k ≡ update_at U k
update_before U u k lt = get_or_append_left U (u ∷ []) (record { packet = 0; key = zero_key; cell = 0; value = pos 0 }) k lt

pub update_last : (U : List Update) (u : Update) → update_at (U ++ u ∷ []) (length U) ≡ u
update_last U u = get_or_push U u (record { packet = 0; key = zero_key; cell = 0; value = pos 0 }) (length U) refl

pub whole_before : (r : Rules) (U : List Update) (u : Update) (n c : ℕ) → n ≤ length U → whole r (U ++ u ∷ []) n c ≡ whole r U n c
unfolding whole
whole_before r U u n c le = ap (whole_of r c) (take-append-le n U (u ∷ []) le)

-- the whole after all updates
pub whole_all : (r : Rules) (U : List Update) (n c : ℕ) → length U ≤ n → whole r U n c ≡ whole_of r c U
unfolding whole
whole_all r U n c le = ap (whole_of r c) (take_all n U le)

-- what all messages tell
pub told_all : (r : Rules) (S : List Push) (n c : ℕ) → All (λ m. m.update < n) S → told r S n c ≡ told_of r c S
unfolding told
told_all r S n c all = ap (told_of r c) (filter_kept (λ m. nat_lt m.update n) S (λ k d lt. let below = all k d lt in grind arith))

distance_before : (r : Rules) (U : List Update) (u : Update) (S : List Push) (k : ℕ) → k < length U → distance_at r (U ++ u ∷ []) S k ≡ distance_at r U S k
unfolding distance_at
distance_before r U u S k lt =
    ap (λ (x : Update). r.distance (told r S k x.cell) (whole r (U ++ u ∷ []) (k + 1) x.cell)) (update_before U u k lt)
    ∙ ap (r.distance (told r S k (update_at U k).cell)) (whole_before r U u (k + 1) (update_at U k).cell (omega arith))

-- how far the last update takes its cell
pub distance_last : (r : Rules) (U : List Update) (u : Update) (S : List Push) → All (λ m. m.update < length U) S
    → distance_at r (U ++ u ∷ []) S (length U) ≡ r.distance (told_of r u.cell S) (whole_of r u.cell (U ++ u ∷ []))
unfolding distance_at
distance_last r U u S all =
    ap (λ (x : Update). r.distance (told r S (length U) x.cell) (whole r (U ++ u ∷ []) (length U + 1) x.cell)) (update_last U u)
    ∙ ap (λ (z : ℤ). r.distance z (whole r (U ++ u ∷ []) (length U + 1) u.cell)) (told_all r S (length U) u.cell all)
    ∙ ap (r.distance (told_of r u.cell S)) (whole_all r (U ++ u ∷ []) (length U + 1) u.cell (omega (arith, length_push U u)))

tells_before : (r : Rules) (U : List Update) (u : Update) (S : List Push) (m : Push) → TellsAll r U S m → TellsAll r (U ++ u ∷ []) S m
tells_before r U u S m h = record {
  within = omega (arith, h.within, length_push U u);
  cell = h.cell ∙ ap (λ (x : Update). x.cell) (sym (update_before U u m.update h.within));
  amount = h.amount ∙ ap (r.gap (told r S m.update m.cell)) (sym (whole_before r U u (m.update + 1) m.cell (omega (arith, h.within))));
}

-- the numbers of messages are those of updates
pub numbers_within : (r : Rules) (U : List Update) (S T : List Push) → All (TellsAll r U S) T → All (λ m. m.update < length U) T
numbers_within r U S T all = λ k d lt. (all k d lt).within

pub not_refused : (n : ℕ) (F : List ℕ) → All (λ k. k < n) F → is_refused n F ≡ false
not_refused n F all = list_any_none (λ j. j == n) F (λ k d lt. let below = all k d lt in grind arith)

pub not_sent : (n : ℕ) (S : List Push) → All (λ m. m.update < n) S → is_sent n S ≡ false
not_sent n S all = list_any_none (λ m. m.update == n) S (λ k d lt. let below = all k d lt in grind arith)

within_more : (U : List Update) (u : Update) (F : List ℕ) → All (λ k. k < length U) F → All (λ k. k < length (U ++ u ∷ [])) F
within_more U u F all = λ k d lt. omega (arith, all k d lt, length_push U u)

-- an update that makes no push due
pub pushes_counted : (r : Rules) (T : ℕ) (U : List Update) (u : Update) (S : List Push) (F : List ℕ) → ArePushes r T U S F
    → r.distance (told_of r u.cell S) (whole_of r u.cell (U ++ u ∷ [])) < T → ArePushes r T (U ++ u ∷ []) S F
pushes_counted r T U u S F h small =
    let within = numbers_within r U S S h.amounts in
    let none : (is_sent (length U) S || is_refused (length U) F) ≡ false = rw (not_sent (length U) S within, not_refused (length U) F h.refused_within) refl in
    record {
      rising = h.rising;
      amounts = λ k d lt. tells_before r U u S _ (h.amounts k d lt);
      refused_rising = h.refused_rising;
      refused_within = within_more U u F h.refused_within;
      reached = λ k lt is. elim (last_or_before U u k lt) [
        | inr early ↦ rw (distance_before r U u S k early) (h.reached k early is)
        | inl last ↦ absurd (let e : (is_sent (length U) S || is_refused (length U) F) ≡ true = subst (λ (n : ℕ). (is_sent n S || is_refused n F) ≡ true) last is in cc)
      ];
      below = λ k lt is. elim (last_or_before U u k lt) [
        | inr early ↦ rw (distance_before r U u S k early) (h.below k early is)
        | inl last ↦ rw (last, distance_last r U u S within) small
      ];
      apart = h.apart;
    }

pub refused_other : (k n : ℕ) (F : List ℕ) → n ≢ k → is_refused k (F ++ n ∷ []) ≡ is_refused k F
refused_other k n F ne =
    let no : (n == k) ≡ false = grind arith in
    list_any-append (λ j. j == k) F (n ∷ []) ∙ rw no (elim (is_refused k F) as (λ b. (b || false) ≡ b) [ true ↦ refl | false ↦ refl ])

pub refused_same : (n : ℕ) (F : List ℕ) → is_refused n (F ++ n ∷ []) ≡ true
refused_same n F =
    let yes : (n == n) ≡ true = grind arith in
    list_any-append (λ j. j == n) F (n ∷ []) ∙ rw yes (elim (is_refused n F) as (λ b. (b || true) ≡ true) [ true ↦ refl | false ↦ refl ])

-- a due update that is refused
pub pushes_refused : (r : Rules) (T : ℕ) (U : List Update) (u : Update) (S : List Push) (F : List ℕ) → ArePushes r T U S F
    → T ≤ r.distance (told_of r u.cell S) (whole_of r u.cell (U ++ u ∷ [])) → ArePushes r T (U ++ u ∷ []) S (F ++ length U ∷ [])
pushes_refused r T U u S F h far =
    let within = numbers_within r U S S h.amounts in
    record {
      rising = h.rising;
      amounts = λ k d lt. tells_before r U u S _ (h.amounts k d lt);
      refused_rising = increasing_push F (length U) h.refused_rising h.refused_within;
      refused_within = All-push (λ k. k < length (U ++ u ∷ [])) F (length U) (within_more U u F h.refused_within) (omega (arith, length_push U u));
      reached = λ k lt is. elim (last_or_before U u k lt) [
        | inr early ↦ (let ne : length U ≢ k = omega arith in
            rw (distance_before r U u S k early) (h.reached k early (ap (λ (b : Bool). is_sent k S || b) (sym (refused_other k (length U) F ne)) ∙ is)))
        | inl last ↦ rw (last, distance_last r U u S within) far
      ];
      below = λ k lt is. elim (last_or_before U u k lt) [
        | inr early ↦ (let ne : length U ≢ k = omega arith in
            rw (distance_before r U u S k early) (h.below k early (ap (λ (b : Bool). is_sent k S || b) (sym (refused_other k (length U) F ne)) ∙ is)))
        | inl last ↦ absurd (let e : (is_sent (length U) S || is_refused (length U) (F ++ length U ∷ [])) ≡ false
            = subst (λ (n : ℕ). (is_sent n S || is_refused n (F ++ length U ∷ [])) ≡ false) last is in
            let f : (is_sent (length U) S || true) ≡ false = ap (λ (b : Bool). is_sent (length U) S || b) (sym (refused_same (length U) F)) ∙ e in
            let g : (false || true) ≡ false = ap (λ (b : Bool). b || true) (sym (not_sent (length U) S within)) ∙ f in cc)
      ];
      apart = λ k sent. let ne : length U ≢ k = (λ e. let a : is_sent (length U) S ≡ true = subst (λ (n : ℕ). is_sent n S ≡ true) (sym e) sent in
          let b : true ≡ false = sym a ∙ not_sent (length U) S within in absurd (cc)) in
          refused_other k (length U) F ne ∙ h.apart k sent;
    }

-- a message of a later update isn't before
pub before_later : (S : List Push) (m : Push) (k : ℕ) → k ≤ m.update → messages_before k (S ++ m ∷ []) ≡ messages_before k S
before_later S m k le = filter_push_no (λ x. nat_lt x.update k) S m (grind arith)

told_later : (r : Rules) (S : List Push) (m : Push) (k c : ℕ) → k ≤ m.update → told r (S ++ m ∷ []) k c ≡ told r S k c
unfolding told
told_later r S m k c le = ap (told_of r c) (before_later S m k le)

distance_sent : (r : Rules) (U : List Update) (S : List Push) (m : Push) (k : ℕ) → k ≤ m.update → distance_at r U (S ++ m ∷ []) k ≡ distance_at r U S k
unfolding distance_at
distance_sent r U S m k le = ap (λ (z : ℤ). r.distance z (whole r U (k + 1) (update_at U k).cell)) (told_later r S m k (update_at U k).cell le)

sent_other : (k : ℕ) (S : List Push) (m : Push) → m.update ≢ k → is_sent k (S ++ m ∷ []) ≡ is_sent k S
sent_other k S m ne =
    let no : (m.update == k) ≡ false = grind arith in
    list_any-append (λ x. x.update == k) S (m ∷ []) ∙ rw no (elim (is_sent k S) as (λ b. (b || false) ≡ b) [ true ↦ refl | false ↦ refl ])

sent_same : (S : List Push) (m : Push) → is_sent m.update (S ++ m ∷ []) ≡ true
sent_same S m =
    let yes : (m.update == m.update) ≡ true = grind arith in
    list_any-append (λ x. x.update == m.update) S (m ∷ []) ∙ rw yes (elim (is_sent m.update S) as (λ b. (b || true) ≡ true) [ true ↦ refl | false ↦ refl ])

tells_sent : (r : Rules) (U : List Update) (S : List Push) (m x : Push) → x.update < m.update → TellsAll r U S x → TellsAll r U (S ++ m ∷ []) x
tells_sent r U S m x lt h = record {
  within = h.within;
  cell = h.cell;
  amount = h.amount ∙ ap (λ (z : ℤ). r.gap z (whole r U (x.update + 1) x.cell)) (sym (told_later r S m x.update x.cell (omega arith)));
}

tells_last : (r : Rules) (U : List Update) (u : Update) (S : List Push) (m : Push) → All (λ x. x.update < length U) S
    → m.update ≡ length U → m.cell ≡ u.cell → m.amount ≡ r.gap (told_of r u.cell S) (whole_of r u.cell (U ++ u ∷ [])) → TellsAll r (U ++ u ∷ []) (S ++ m ∷ []) m
tells_last r U u S m all n cell amount =
    let told_is : told r (S ++ m ∷ []) m.update m.cell ≡ told_of r u.cell S =
    told_later r S m m.update m.cell (omega arith) ∙ ap (λ (j : ℕ). told r S j m.cell) n ∙ told_all r S (length U) m.cell all ∙ ap (λ (c : ℕ). told_of r c S) cell in
    let whole_is : whole r (U ++ u ∷ []) (m.update + 1) m.cell ≡ whole_of r u.cell (U ++ u ∷ []) =
    whole_all r (U ++ u ∷ []) (m.update + 1) m.cell (omega (arith, n, length_push U u)) ∙ ap (λ (c : ℕ). whole_of r c (U ++ u ∷ [])) cell in
    record {
      within = omega (arith, n, length_push U u);
      cell = cell ∙ ap (λ (x : Update). x.cell) (sym (ap (update_at (U ++ u ∷ [])) n ∙ update_last U u));
      amount = amount ∙ sym (ap (λ (z : ℤ). r.gap z (whole r (U ++ u ∷ []) (m.update + 1) m.cell)) told_is ∙ ap (r.gap (told_of r u.cell S)) whole_is);
    }

apart_sent : (r : Rules) (T : ℕ) (U : List Update) (S : List Push) (F : List ℕ) (m : Push) → ArePushes r T U S F → m.update ≡ length U
    → (k : ℕ) (b : Bool) → (m.update == k) ≡ b → is_sent k (S ++ m ∷ []) ≡ true → is_refused k F ≡ false
apart_sent r T U S F m h n k true same sent = let e : k ≡ length U = grind (arith, n) in rw e (not_refused (length U) F h.refused_within)
apart_sent r T U S F m h n k false other sent =
    let ne : m.update ≢ k = (λ e. let yes : (m.update == k) ≡ true = grind arith in let no : true ≡ false = sym yes ∙ other in absurd (cc)) in
    h.apart k (sym (sent_other k S m ne) ∙ sent)

-- a due update that is sent
pub pushes_sent : (r : Rules) (T : ℕ) (U : List Update) (u : Update) (S : List Push) (F : List ℕ) (m : Push) → ArePushes r T U S F
    → T ≤ r.distance (told_of r u.cell S) (whole_of r u.cell (U ++ u ∷ [])) → m.update ≡ length U → m.cell ≡ u.cell
    → m.amount ≡ r.gap (told_of r u.cell S) (whole_of r u.cell (U ++ u ∷ [])) → ArePushes r T (U ++ u ∷ []) (S ++ m ∷ []) F
pushes_sent r T U u S F m h far n cell amount =
    let within = numbers_within r U S S h.amounts in
    record {
      rising = subst IsStrictlyIncreasing (sym (map_push (λ x. x.update) S m))
          (increasing_push (map (λ x. x.update) S) m.update h.rising
          (All-map (λ y. y < m.update) (λ x. x.update) S (λ k d lt. let below = within k d lt in omega (arith, below, n))));
      amounts = All-push (TellsAll r (U ++ u ∷ []) (S ++ m ∷ [])) S m
          (λ k d lt. tells_sent r (U ++ u ∷ []) S m _ (omega (arith, within k d lt, n)) (tells_before r U u S _ (h.amounts k d lt)))
          (tells_last r U u S m within n cell amount);
      refused_rising = h.refused_rising;
      refused_within = within_more U u F h.refused_within;
      reached = λ k lt is. elim (last_or_before U u k lt) [
        | inr early ↦ (let ne : m.update ≢ k = omega (arith, n) in
            rw (distance_sent r (U ++ u ∷ []) S m k (omega (arith, n)), distance_before r U u S k early) (h.reached k early (ap (λ (b : Bool). b || is_refused k F) (sym (sent_other k S m ne)) ∙ is)))
        | inl last ↦ rw (last, distance_sent r (U ++ u ∷ []) S m (length U) (omega (arith, n)), distance_last r U u S within) far
      ];
      below = λ k lt is. elim (last_or_before U u k lt) [
        | inr early ↦ (let ne : m.update ≢ k = omega (arith, n) in
            rw (distance_sent r (U ++ u ∷ []) S m k (omega (arith, n)), distance_before r U u S k early) (h.below k early (ap (λ (b : Bool). b || is_refused k F) (sym (sent_other k S m ne)) ∙ is)))
        | inl last ↦ absurd (let e : (is_sent m.update (S ++ m ∷ []) || is_refused m.update F) ≡ false
            = subst (λ (j : ℕ). (is_sent j (S ++ m ∷ []) || is_refused j F) ≡ false) (last ∙ sym n) is in
            let f : (true || is_refused m.update F) ≡ false = ap (λ (b : Bool). b || is_refused m.update F) (sym (sent_same S m)) ∙ e in cc)
      ];
      apart = λ k sent. apart_sent r T U S F m h n k (m.update == k) refl sent;
    }

-- no update, no message
pub pushes_none : (r : Rules) (T : ℕ) → ArePushes r T [] [] []
pushes_none r T = record {
  rising = λ k lt. absurd (omega (arith, lt));
  amounts = λ k d lt. absurd (omega (arith, lt));
  refused_rising = λ k lt. absurd (omega (arith, lt));
  refused_within = λ k d lt. absurd (omega (arith, lt));
  reached = λ k lt is. absurd (omega (arith, lt));
  below = λ k lt is. absurd (omega (arith, lt));
  apart = λ k sent. refl;
}
