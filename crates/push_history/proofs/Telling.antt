-- What is told before each update, and what is left.
use Rattle.std.proofs.Common.{◌≡◌, ◌<◌, ◌≤◌, ℕ, zero, suc, ◌+◌, ◌-◌, ◌==◌, ◌||◌, ℤ, pos, List, [], ◌∷◌, ◌++◌, length, get_or, take, Bool, true, false, if◌then◌else◌, nat_lt, refl, sym, ap, ◌∙◌, subst, arith, inl, inr}
use Rattle.std.specs.Prelude.{All, map}
use Rattle.std.proofs.lemmas.List.Elements.{All-take}
use Rattle.std.specs.List.Sorted.{IsStrictlyIncreasing}
use Rattle.std.proofs.lemmas.Bool.{cases_lt}
use Rattle.std.proofs.lemmas.List.{get_or-map, length-map, take_more}
use Rattle.std.proofs.lemmas.List.Kept.{AllPairs-from_increasing}
use Rattle.hash_rows.specs.declared.shape.Update.{Update}
use Rattle.hash_rows.specs.declared.shape.Push.{Push}
use Rattle.hash_rows.specs.Rules.{Rules, AreLaws}
use Rattle.push_history.specs.Share.{zero_key}
use Rattle.push_history.specs.Updates.{update_at, HoldValues, IsLastOf}
use Rattle.push_history.specs.Whole.{whole_of, whole}
use Rattle.push_history.specs.Told.{told_of, told, messages_before}
use Rattle.push_history.specs.Residue.{residue, residue_size}
use Rattle.push_history.specs.Front.{message_at, upto_of}
use Rattle.push_history.specs.Pushes.{is_sent, is_refused, distance_at, TellsAll, ArePushes}
use Rattle.push_history.proofs.Lists.{filter_front, filter_same, each_fails, some_passes}
use Rattle.push_history.proofs.Joins.{whole_push, told_push, whole_value}

-- no message: what a list shows past its end
no_push : Push
no_push = record { worker = 0; packet = 0; update = 0; key = zero_key; cell = 0; amount = pos 0 }

-- within a list the default has no part
get_or_default : (S : List Push) (i : ℕ) (d e : Push) → i < length S → get_or S i d ≡ get_or S i e
get_or_default [] i d e lt = absurd (omega (arith, lt))
get_or_default (x ∷ xs) zero d e lt = refl
get_or_default (x ∷ xs) (suc i) d e lt = get_or_default xs i d e (omega (arith, lt))

rising_below : (S : List Push) → IsStrictlyIncreasing (map (λ m. m.update) S) → (i j : ℕ) (d : Push) → i < j → j < length S → (get_or S i d).update < (get_or S j d).update
rising_below S rising i j d lt within =
    let numbers : List ℕ = map (λ m. m.update) S in
    let same : length numbers ≡ length S = length-map S (λ m. m.update) in
    let below : get_or numbers i 0 < get_or numbers j 0 = AllPairs-from_increasing numbers rising i j 0 lt (omega (arith, same, within)) in
    let at_i : get_or numbers i 0 ≡ (get_or S i d).update = get_or-map (λ m. m.update) S i d 0 (omega arith) in
    let at_j : get_or numbers j 0 ≡ (get_or S j d).update = get_or-map (λ m. m.update) S j d 0 within in
    omega (arith, below, at_i, at_j)

-- the messages before an update are the first ones
before_is_take : (S : List Push) (j n : ℕ)
    → ((k : ℕ) (d : Push) → k < j → k < length S → (get_or S k d).update < n)
    → ((k : ℕ) (d : Push) → j ≤ k → k < length S → n ≤ (get_or S k d).update) → messages_before n S ≡ take j S
before_is_take S j n front back =
    filter_front (λ m. nat_lt m.update n) S j
    (λ k d lt within. let below = front k d lt within in grind arith)
    (λ k d le within. let above = back k d le within in grind arith)

-- the messages up to and with message i
before_next : (S : List Push) → IsStrictlyIncreasing (map (λ m. m.update) S) → (i : ℕ) (d : Push) → i < length S → messages_before ((get_or S i d).update + 1) S ≡ take (i + 1) S
before_next S rising i d within =
    before_is_take S (i + 1) ((get_or S i d).update + 1)
    (λ k e lt inside. elim (cases_lt k i) [
      | inl early ↦ (let below = rising_below S rising k i e early within in let same : get_or S i e ≡ get_or S i d = get_or_default S i e d within in omega (arith, below, ap (λ (m : Push). m.update) same))
      | inr late ↦ (let at : k ≡ i = omega (arith, lt, late) in let same : get_or S k e ≡ get_or S i d = ap (λ (n : ℕ). get_or S n e) at ∙ get_or_default S i e d within in omega (arith, ap (λ (m : Push). m.update) same))
    ])
    (λ k e le inside. let below = rising_below S rising i k d (omega (arith, le)) inside in let same : get_or S k e ≡ get_or S k d = get_or_default S k e d inside in omega (arith, below, ap (λ (m : Push). m.update) same))

upto_next : (S : List Push) (i : ℕ) → upto_of S (i + 1) ≡ (message_at S i).update + 1
unfolding upto_of
upto_next S i =
    let no : (i + 1 == 0) ≡ false = grind arith in
    let back : i + 1 - 1 ≡ i = omega arith in
    rw (no, back) refl

-- what the messages up to a front tell is what its first messages tell
pub told_first : (r : Rules) (S : List Push) → IsStrictlyIncreasing (map (λ m. m.update) S) → (j : ℕ) → j ≤ length S → (cell : ℕ)
    → told r S (upto_of S j) cell ≡ told_of r cell (take j S)
unfolding told upto_of
told_first r S rising zero le cell = ap (told_of r cell) (before_is_take S 0 0 (λ k d lt within. absurd (omega (arith, lt))) (λ k d lt within. omega arith))
told_first r S rising (suc i) le cell =
    let next : suc i ≡ i + 1 = omega arith in
    let within : i < length S = omega (arith, le) in
    subst (λ (j : ℕ). told r S (upto_of S j) cell ≡ told_of r cell (take j S)) (sym next)
    (ap (λ (n : ℕ). told r S n cell) (upto_next S i)
    ∙ ap (told_of r cell) (before_next S rising i (record { worker = 0; packet = 0; update = 0; key = zero_key; cell = 0; amount = pos 0 }) within))

-- one update more
pub whole_step : (r : Rules) (U : List Update) (m cell : ℕ) → m < length U
    → whole r U (m + 1) cell ≡ (if (update_at U m).cell == cell then r.join (whole r U m cell) (update_at U m).value else whole r U m cell)
unfolding whole
whole_step r U m cell within =
    ap (whole_of r cell) (take_more U m (record { packet = 0; key = zero_key; cell = 0; value = pos 0 }) within)
    ∙ whole_push r cell (take m U) (update_at U m)

-- an update that no message tells
pub told_step_quiet : (r : Rules) (S : List Push) (m cell : ℕ) → is_sent m S ≡ false → told r S (m + 1) cell ≡ told r S m cell
unfolding told
told_step_quiet r S m cell none =
    ap (told_of r cell) (filter_same (λ x. nat_lt x.update (m + 1)) (λ x. nat_lt x.update m) S
    (λ k d lt. let other = each_fails (λ x. x.update == m) S none k d lt in grind arith))

-- the messages before the update of message i
before_at : (S : List Push) → IsStrictlyIncreasing (map (λ m. m.update) S) → (i : ℕ) (d : Push) → i < length S → messages_before (get_or S i d).update S ≡ take i S
before_at S rising i d within =
    before_is_take S i (get_or S i d).update
    (λ k e lt inside. let below = rising_below S rising k i d lt within in let same : get_or S k e ≡ get_or S k d = get_or_default S k e d inside in omega (arith, below, ap (λ (m : Push). m.update) same))
    (λ k e le inside. elim (cases_lt i k) [
      | inl early ↦ (let below = rising_below S rising i k d early inside in let same : get_or S k e ≡ get_or S k d = get_or_default S k e d inside in omega (arith, below, ap (λ (m : Push). m.update) same))
      | inr late ↦ (let at : k ≡ i = omega (arith, le, late) in let same : get_or S k e ≡ get_or S i d = ap (λ (n : ℕ). get_or S n e) at ∙ get_or_default S i e d within in omega (arith, ap (λ (m : Push). m.update) same))
    ])

tells_own : (r : Rules) (U : List Update) (S : List Push) (x : Push) (m cell : ℕ) → TellsAll r U S x → x.update ≡ m → (b : Bool) → (x.cell == cell) ≡ b
    → (if b then r.join (told r S m cell) x.amount else told r S m cell)
    ≡ (if b then r.join (told r S m cell) (r.gap (told r S m cell) (whole r U (m + 1) cell)) else told r S m cell)
tells_own r U S x m cell h n false other = refl
tells_own r U S x m cell h n true same =
    let e : x.cell ≡ cell = grind arith in
    ap (r.join (told r S m cell)) (h.amount
    ∙ ap (λ (k : ℕ). r.gap (told r S k x.cell) (whole r U (k + 1) x.cell)) n
    ∙ ap (λ (c : ℕ). r.gap (told r S m c) (whole r U (m + 1) c)) e)

told_at : (r : Rules) (U : List Update) (S : List Push) → IsStrictlyIncreasing (map (λ m. m.update) S) → (i m cell : ℕ) → i < length S
    → TellsAll r U S (message_at S i) → (message_at S i).update ≡ m
    → told r S (m + 1) cell ≡ (if (update_at U m).cell == cell then r.join (told r S m cell) (r.gap (told r S m cell) (whole r U (m + 1) cell)) else told r S m cell)
unfolding told
told_at r U S rising i m cell within h n =
    let x : Push = message_at S i in
    let before : messages_before m S ≡ take i S = subst (λ (k : ℕ). messages_before k S ≡ take i S) n (before_at S rising i (record { worker = 0; packet = 0; update = 0; key = zero_key; cell = 0; amount = pos 0 }) within) in
    let after : messages_before (m + 1) S ≡ take i S ++ x ∷ [] =
    subst (λ (k : ℕ). messages_before (k + 1) S ≡ take (i + 1) S) n (before_next S rising i (record { worker = 0; packet = 0; update = 0; key = zero_key; cell = 0; amount = pos 0 }) within)
    ∙ take_more S i (record { worker = 0; packet = 0; update = 0; key = zero_key; cell = 0; amount = pos 0 }) within in
    let its_cell : x.cell ≡ (update_at U m).cell = h.cell ∙ ap (λ (k : ℕ). (update_at U k).cell) n in
    ap (told_of r cell) after ∙ told_push r cell (take i S) x
    ∙ ap (λ (t : List Push). if x.cell == cell then r.join (told_of r cell t) x.amount else told_of r cell t) (sym before)
    ∙ tells_own r U S x m cell h n (x.cell == cell) refl
    ∙ ap (λ (c : ℕ). if c == cell then r.join (told r S m cell) (r.gap (told r S m cell) (whole r U (m + 1) cell)) else told r S m cell) its_cell

-- an update that a message tells
pub told_step_sent : (r : Rules) (T : ℕ) (U : List Update) (S : List Push) (F : List ℕ) → ArePushes r T U S F → (m cell : ℕ) → is_sent m S ≡ true
    → told r S (m + 1) cell ≡ (if (update_at U m).cell == cell then r.join (told r S m cell) (r.gap (told r S m cell) (whole r U (m + 1) cell)) else told r S m cell)
told_step_sent r T U S F h m cell sent =
    let at = some_passes (λ x. x.update == m) S sent in
    let is = at.2 (record { worker = 0; packet = 0; update = 0; key = zero_key; cell = 0; amount = pos 0 }) in
    let its_number : (message_at S at.0).update ≡ m = grind arith in
    told_at r U S h.rising at.0 m cell at.1 (h.amounts at.0 (record { worker = 0; packet = 0; update = 0; key = zero_key; cell = 0; amount = pos 0 }) at.1) its_number

-- what was told is a value that is behind the whole
pub record IsBehind (r : Rules) (told_value whole_value : ℤ) : Type 0 where
  pub told_is : r.is_value told_value ≡ true
  pub whole_is : r.is_value whole_value ≡ true
  pub behind : r.is_behind told_value whole_value ≡ true

behind_more : (r : Rules) → AreLaws r → (b : Bool) (told whole value : ℤ) → r.is_value value ≡ true → IsBehind r told whole
    → IsBehind r told (if b then r.join whole value else whole)
behind_more r laws true told whole value is h = record {
  told_is = h.told_is;
  whole_is = laws.join_value whole value h.whole_is is;
  behind = laws.behind_join told whole value h.told_is h.whole_is is h.behind;
}
behind_more r laws false told whole value is h = h

behind_told : (r : Rules) → AreLaws r → (b : Bool) (told whole : ℤ) → IsBehind r told whole → IsBehind r (if b then r.join told (r.gap told whole) else told) whole
behind_told r laws true told whole h =
    let all : r.join told (r.gap told whole) ≡ whole = laws.join_gap told whole h.told_is h.whole_is h.behind in
    record {
      told_is = ap r.is_value all ∙ h.whole_is;
      whole_is = h.whole_is;
      behind = ap (λ (z : ℤ). r.is_behind z whole) all ∙ laws.behind_self whole h.whole_is;
    }
behind_told r laws false told whole h = h

told_step_by : (r : Rules) → AreLaws r → (T : ℕ) (U : List Update) (S : List Push) (F : List ℕ) → ArePushes r T U S F → (m cell : ℕ)
    → IsBehind r (told r S m cell) (whole r U (m + 1) cell) → (b : Bool) → is_sent m S ≡ b → IsBehind r (told r S (m + 1) cell) (whole r U (m + 1) cell)
told_step_by r laws T U S F h m cell was true sent =
    subst (λ (z : ℤ). IsBehind r z (whole r U (m + 1) cell)) (sym (told_step_sent r T U S F h m cell sent))
    (behind_told r laws ((update_at U m).cell == cell) (told r S m cell) (whole r U (m + 1) cell) was)
told_step_by r laws T U S F h m cell was false none =
    subst (λ (z : ℤ). IsBehind r z (whole r U (m + 1) cell)) (sym (told_step_quiet r S m cell none)) was

-- what is told of a cell is behind what its updates make of it
pub told_behind : (r : Rules) → AreLaws r → (T : ℕ) (U : List Update) (S : List Push) (F : List ℕ) → HoldValues r U → ArePushes r T U S F
    → (m cell : ℕ) → m ≤ length U → IsBehind r (told r S m cell) (whole r U m cell)
unfolding told whole told_of whole_of
told_behind r laws T U S F values h zero cell le =
    let none : messages_before 0 S ≡ [] = before_is_take S 0 0 (λ k d lt within. absurd (omega (arith, lt))) (λ k d lt within. omega arith) in
    subst (λ (t : List Push). IsBehind r (told_of r cell t) (pos 0)) (sym none) (record { told_is = laws.zero_value; whole_is = laws.zero_value; behind = laws.behind_zero (pos 0) laws.zero_value })
told_behind r laws T U S F values h (suc m) cell le =
    let next : suc m ≡ m + 1 = omega arith in
    let was = told_behind r laws T U S F values h m cell (omega (arith, le)) in
    let within : m < length U = omega (arith, le) in
    let grown : IsBehind r (told r S m cell) (whole r U (m + 1) cell) =
    subst (λ (z : ℤ). IsBehind r (told r S m cell) z) (sym (whole_step r U m cell within))
    (behind_more r laws ((update_at U m).cell == cell) (told r S m cell) (whole r U m cell) (update_at U m).value (values m (record { packet = 0; key = zero_key; cell = 0; value = pos 0 }) within) was) in
    subst (λ (n : ℕ). IsBehind r (told r S n cell) (whole r U n cell)) (sym next) (told_step_by r laws T U S F h m cell grown (is_sent m S) refl)

-- the whole is what was told joined with the residue
pub whole_is : (r : Rules) → AreLaws r → (T : ℕ) (U : List Update) (S : List Push) (F : List ℕ) → HoldValues r U → ArePushes r T U S F
    → (m cell : ℕ) → m ≤ length U → whole r U m cell ≡ r.join (told r S m cell) (residue r U S m cell)
unfolding residue
whole_is r laws T U S F values h m cell le =
    let are = told_behind r laws T U S F values h m cell le in
    sym (laws.join_gap (told r S m cell) (whole r U m cell) are.told_is are.whole_is are.behind)

-- the last update of a cell, where the next one is of another
last_further : (U : List Update) (m cell k : ℕ) → ((update_at U m).cell == cell) ≡ false → IsLastOf U m cell k → IsLastOf U (m + 1) cell k
last_further U m cell k other h = record {
  below = omega (arith, h.below);
  cell = h.cell;
  last = λ j after before. elim (cases_lt j m) [
    | inl early ↦ h.last j after early
    | inr late ↦ (let at : j ≡ m = omega (arith, late, before) in λ e. let same : ((update_at U m).cell == cell) ≡ true = (let e' : (update_at U m).cell ≡ cell = ap (λ (n : ℕ). (update_at U n).cell) (sym at) ∙ e in grind arith) in let no : true ≡ false = sym same ∙ other in cc)
  ];
}

last_here : (U : List Update) (m cell : ℕ) → ((update_at U m).cell == cell) ≡ true → IsLastOf U (m + 1) cell m
last_here U m cell same = record {
  below = omega arith;
  cell = grind arith;
  last = λ j after before. absurd (omega (arith, after, before));
}

-- the size of the residue at the update of the cell itself, where no message tells it
size_at : (r : Rules) (U : List Update) (S : List Push) (m cell : ℕ) → ((update_at U m).cell == cell) ≡ true → is_sent m S ≡ false
    → residue_size r U S (m + 1) cell ≡ distance_at r U S m
unfolding residue_size distance_at
size_at r U S m cell same none =
    let e : cell ≡ (update_at U m).cell = grind arith in
    ap (λ (z : ℤ). r.distance z (whole r U (m + 1) cell)) (told_step_quiet r S m cell none)
    ∙ ap (λ (c : ℕ). r.distance (told r S m c) (whole r U (m + 1) c)) e

-- and where a message tells it
size_told : (r : Rules) → AreLaws r → (T : ℕ) (U : List Update) (S : List Push) (F : List ℕ) → HoldValues r U → ArePushes r T U S F
    → (m cell : ℕ) → m < length U → ((update_at U m).cell == cell) ≡ true → is_sent m S ≡ true → residue_size r U S (m + 1) cell ≡ 0
unfolding residue_size
size_told r laws T U S F values h m cell within same sent =
    let was = told_behind r laws T U S F values h m cell (omega arith) in
    let grown : IsBehind r (told r S m cell) (whole r U (m + 1) cell) =
    subst (λ (z : ℤ). IsBehind r (told r S m cell) z) (sym (whole_step r U m cell within))
    (behind_more r laws ((update_at U m).cell == cell) (told r S m cell) (whole r U m cell) (update_at U m).value (values m (record { packet = 0; key = zero_key; cell = 0; value = pos 0 }) within) was) in
    let all : told r S (m + 1) cell ≡ whole r U (m + 1) cell =
    told_step_sent r T U S F h m cell sent ∙ rw same (laws.join_gap (told r S m cell) (whole r U (m + 1) cell) grown.told_is grown.whole_is grown.behind) in
    ap (λ (z : ℤ). r.distance z (whole r U (m + 1) cell)) all ∙ laws.distance_self (whole r U (m + 1) cell) grown.whole_is

told_other : (r : Rules) (T : ℕ) (U : List Update) (S : List Push) (F : List ℕ) → ArePushes r T U S F → (m cell : ℕ)
    → ((update_at U m).cell == cell) ≡ false → (b : Bool) → is_sent m S ≡ b → told r S (m + 1) cell ≡ told r S m cell
told_other r T U S F h m cell other true sent = told_step_sent r T U S F h m cell sent ∙ rw other refl
told_other r T U S F h m cell other false none = told_step_quiet r S m cell none

-- an update of another cell leaves the size as it is
size_other : (r : Rules) (T : ℕ) (U : List Update) (S : List Push) (F : List ℕ) → ArePushes r T U S F → (m cell : ℕ) → m < length U
    → ((update_at U m).cell == cell) ≡ false → residue_size r U S (m + 1) cell ≡ residue_size r U S m cell
unfolding residue_size
size_other r T U S F h m cell within other =
    ap (λ (z : ℤ). r.distance z (whole r U (m + 1) cell)) (told_other r T U S F h m cell other (is_sent m S) refl)
    ∙ ap (r.distance (told r S m cell)) (whole_step r U m cell within ∙ rw other refl)

size_zero : (r : Rules) → AreLaws r → (U : List Update) (S : List Push) (cell : ℕ) → residue_size r U S 0 cell ≡ 0
unfolding residue_size told whole told_of whole_of
size_zero r laws U S cell =
    let none : messages_before 0 S ≡ [] = before_is_take S 0 0 (λ k d lt within. absurd (omega (arith, lt))) (λ k d lt within. omega arith) in
    ap (λ (t : List Push). r.distance (told_of r cell t) (pos 0)) none ∙ laws.distance_self (pos 0) laws.zero_value

-- the last update of the cell was refused
abbrev pub LastRefused : List Update → List ℕ → ℕ → ℕ → Type 0
LastRefused U F m cell = (k : ℕ) × IsLastOf U m cell k × (is_refused k F ≡ true)

refused_by : (r : Rules) (T : ℕ) (U : List Update) (S : List Push) (F : List ℕ) → ArePushes r T U S F → (m cell : ℕ) → m < length U
    → ((update_at U m).cell == cell) ≡ true → is_sent m S ≡ false → T ≤ residue_size r U S (m + 1) cell → (b : Bool) → is_refused m F ≡ b → LastRefused U F (m + 1) cell
refused_by r T U S F h m cell within same none far true refused = (m, last_here U m cell same, refused)
refused_by r T U S F h m cell within same none far false not_refused =
    let neither : (is_sent m S || is_refused m F) ≡ false = rw (none, not_refused) refl in
    absurd (omega (arith, far, size_at r U S m cell same none, h.below m within neither))

large_at : (r : Rules) → AreLaws r → (T : ℕ) (U : List Update) (S : List Push) (F : List ℕ) → HoldValues r U → ArePushes r T U S F → 1 ≤ T
    → (m cell : ℕ) → m < length U → ((update_at U m).cell == cell) ≡ true → T ≤ residue_size r U S (m + 1) cell → (b : Bool) → is_sent m S ≡ b → LastRefused U F (m + 1) cell
large_at r laws T U S F values h some m cell within same far true sent = absurd (omega (arith, some, far, size_told r laws T U S F values h m cell within same sent))
large_at r laws T U S F values h some m cell within same far false none = refused_by r T U S F h m cell within same none far (is_refused m F) refl

large_by : (r : Rules) → AreLaws r → (T : ℕ) (U : List Update) (S : List Push) (F : List ℕ) → HoldValues r U → ArePushes r T U S F → 1 ≤ T
    → (m cell : ℕ) → m < length U → T ≤ residue_size r U S (m + 1) cell → (T ≤ residue_size r U S m cell → LastRefused U F m cell)
    → (b : Bool) → ((update_at U m).cell == cell) ≡ b → LastRefused U F (m + 1) cell
large_by r laws T U S F values h some m cell within far earlier true same = large_at r laws T U S F values h some m cell within same far (is_sent m S) refl
large_by r laws T U S F values h some m cell within far earlier false other =
    let was : LastRefused U F m cell = earlier (omega (arith, far, size_other r T U S F h m cell within other)) in
    (was.0, last_further U m cell was.0 other was.1, was.2)

-- a residue as large as the threshold is left by a refused update alone
pub large_refused : (r : Rules) → AreLaws r → (T : ℕ) (U : List Update) (S : List Push) (F : List ℕ) → HoldValues r U → ArePushes r T U S F → 1 ≤ T
    → (m cell : ℕ) → m ≤ length U → T ≤ residue_size r U S m cell → LastRefused U F m cell
large_refused r laws T U S F values h some zero cell le far = absurd (omega (arith, some, far, size_zero r laws U S cell))
large_refused r laws T U S F values h some (suc m) cell le far =
    let next : suc m ≡ m + 1 = omega arith in
    let far' : T ≤ residue_size r U S (m + 1) cell = subst (λ (n : ℕ). T ≤ residue_size r U S n cell) next far in
    subst (λ (n : ℕ). LastRefused U F n cell) (sym next)
    (large_by r laws T U S F values h some m cell (omega (arith, le)) far' (λ earlier. large_refused r laws T U S F values h some m cell (omega (arith, le)) earlier) ((update_at U m).cell == cell) refl)

-- what messages tell are values
pub amounts_are_values : (r : Rules) → AreLaws r → (T : ℕ) (U : List Update) (S : List Push) (F : List ℕ) → HoldValues r U → ArePushes r T U S F → All (λ m. r.is_value m.amount ≡ true) S
unfolding whole
amounts_are_values r laws T U S F values h = λ k d lt.
    let m : Push = get_or S k d in
    let tells : TellsAll r U S m = h.amounts k d lt in
    let was = told_behind r laws T U S F values h m.update m.cell (omega (arith, tells.within)) in
    ap r.is_value tells.amount
    ∙ laws.gap_value (told r S m.update m.cell) (whole r U (m.update + 1) m.cell) was.told_is
    (whole_value r laws m.cell (take (m.update + 1) U) (All-take (λ u. r.is_value u.value ≡ true) (m.update + 1) U values))

-- the messages before one update more: none is added where none tells the update
pub before_quiet : (S : List Push) (m : ℕ) → is_sent m S ≡ false → messages_before (m + 1) S ≡ messages_before m S
before_quiet S m none = filter_same (λ x. nat_lt x.update (m + 1)) (λ x. nat_lt x.update m) S (λ k d lt. let other = each_fails (λ x. x.update == m) S none k d lt in grind arith)

-- and one where one does
pub before_sent : (r : Rules) (T : ℕ) (U : List Update) (S : List Push) (F : List ℕ) → ArePushes r T U S F → (m : ℕ) → is_sent m S ≡ true
    → (x : Push) × (messages_before (m + 1) S ≡ messages_before m S ++ x ∷ []) × TellsAll r U S x × (x.update ≡ m)
before_sent r T U S F h m sent =
    let at = some_passes (λ x. x.update == m) S sent in
    let d : Push = record { worker = 0; packet = 0; update = 0; key = zero_key; cell = 0; amount = pos 0 } in
    let x : Push = get_or S at.0 d in
    let is = at.2 d in
    let n : x.update ≡ m = grind arith in
    let before : messages_before m S ≡ take at.0 S = subst (λ (k : ℕ). messages_before k S ≡ take at.0 S) n (before_at S h.rising at.0 d at.1) in
    let after : messages_before (m + 1) S ≡ take (at.0 + 1) S = subst (λ (k : ℕ). messages_before (k + 1) S ≡ take (at.0 + 1) S) n (before_next S h.rising at.0 d at.1) in
    (x, after ∙ take_more S at.0 d at.1 ∙ ap (λ (t : List Push). t ++ x ∷ []) (sym before), h.amounts at.0 d at.1, n)

-- the messages before the number of a front are its first ones
pub messages_first : (S : List Push) → IsStrictlyIncreasing (map (λ m. m.update) S) → (j : ℕ) → j ≤ length S → messages_before (upto_of S j) S ≡ take j S
unfolding upto_of
messages_first S rising zero le = before_is_take S 0 0 (λ k d lt within. absurd (omega (arith, lt))) (λ k d lt within. omega arith)
messages_first S rising (suc i) le =
    let next : suc i ≡ i + 1 = omega arith in
    subst (λ (j : ℕ). messages_before (upto_of S j) S ≡ take j S) (sym next)
    (ap (λ (n : ℕ). messages_before n S) (upto_next S i)
    ∙ before_next S rising i (record { worker = 0; packet = 0; update = 0; key = zero_key; cell = 0; amount = pos 0 }) (omega (arith, le)))
