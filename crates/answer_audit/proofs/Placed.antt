-- Fronts, place by place.
use Rattle.std.proofs.Common.{◌≡◌, ◌<◌, ◌≤◌, ◌==◌, ◌&&◌, ◌||◌, ℕ, ℤ, pos, zero, suc, ◌+◌, List, [], ◌∷◌, length, map, get_or, Bool, true, false, if◌then◌else◌, nat_le, refl, sym, ap, ap₂, ◌∙◌, arith, inl, inr}
use Rattle.std.specs.Prelude.{Some, nat_lt, slice_get}
use Rattle.std.specs.List.{list_all, range_with_len}
use Rattle.std.specs.Ordering.{int_eq}
use Rattle.std.specs.Global.{Vec}
use Rattle.std.proofs.Math.Nat.{eq-or-lt_of_le}
use Rattle.std.proofs.lemmas.Bool.{eq-eqb, and_from}
use Rattle.std.proofs.lemmas.Bool.Decides.{nat_tests}
use Rattle.std.proofs.lemmas.List.{get_or-map}
use Rattle.packet_key.specs.declared.key.FlowKey.{FlowKey}
use Rattle.hash_rows.specs.declared.shape.Push.{Push}
use Rattle.hash_rows.specs.Rules.{Rules}
use Rattle.hash_rows.specs.Tables.{TableView}
use Rattle.push_history.specs.LawfulJournal.{sent_by}
use Rattle.push_history.specs.Share.{zero_key}
use Rattle.told_table.specs.Tables.{lists_of}
use Rattle.audit_law.specs.declared.failure.Failure.{Failure}
use Rattle.audit_law.specs.declared.failure.Value.TheVariants.{Number, Signed}
use Rattle.audit_law.specs.Tests.{Test, first_failing}
use Rattle.audit_law.specs.AnswerTests.{answer_at, place_in, first_unlike, is_no_further, order_test, rising_test, within_test}
use Rattle.audit_law.proofs.Failing.{AllPass, fails_at, pass_more}
use Rattle.answer_audit.proofs.Judging.{front_is}
use Rattle.octo_text.specs.Content.{content_of}
use Rattle.octo_text.specs.declared.journal.Journal.{Journal}
use Rattle.hash_rows.specs.declared.answer.Answer.{Answer}
use Rattle.answer_audit.specs.Answered.{shown_test}

-- what a worker sent
pub sent_is : (lists : List (Vec Push)) (w : ℕ) (d : Vec Push) → w < length lists → sent_by (lists_of lists) w ≡ (get_or lists w d).items
sent_is lists w d lt = get_or-map (λ (v : Vec Push). v.items) lists w d [] lt

not_le : (a b : ℕ) → nat_lt b a ≡ true → nat_le a b ≡ false
not_le a b less = grind (arith, nat_tests)

is_le : (a b : ℕ) → nat_lt b a ≡ false → nat_le a b ≡ true
is_le a b less = grind (arith, nat_tests)

pub within_fails : (line : ℕ) (lists : List (Vec Push)) (front : List ℕ) (w sent number : ℕ) → w < length lists → AllPass (within_test line (lists_of lists) front) w
    → sent ≡ length (sent_by (lists_of lists) w) → number ≡ place_in front w → nat_lt sent number ≡ true
    → Some (record { line = line; kept = Number number; lawful = Number sent }) ≡ first_failing (map (within_test line (lists_of lists) front) (range_with_len 0 (length lists)))
unfolding within_test
within_fails line lists front w sent number lt before is at less =
    let fails : nat_le (place_in front w) (length (sent_by (lists_of lists) w)) ≡ false =
    ap₂ (λ (a b : ℕ). nat_le a b) (sym at) (sym is) ∙ not_le number sent less in
    ap₂ (λ (a b : ℕ). Some (record { line = line; kept = Number a; lawful = Number b })) at is
    ∙ sym (fails_at (within_test line (lists_of lists) front) (length lists) w lt before fails)

pub rising_fails : (line : ℕ) (before front : List ℕ) (w : ℕ) → w < length front → AllPass (rising_test line before front) w → nat_lt (place_in front w) (place_in before w) ≡ true
    → Some (record { line = line; kept = Number (place_in front w); lawful = Number (place_in before w) }) ≡ first_failing (map (rising_test line before front) (range_with_len 0 (length front)))
unfolding rising_test
rising_fails line before front w lt earlier less =
    sym (fails_at (rising_test line before front) (length front) w lt earlier (not_le (place_in before w) (place_in front w) less))

and_no : (b : Bool) → (b && false) ≡ false
and_no true = refl
and_no false = refl

all_fails : (p : ℕ → Bool) (a n k : ℕ) → a ≤ k → k < a + n → p k ≡ false → list_all p (range_with_len a n) ≡ false
all_fails p a zero k low high is = absurd (omega (arith, low, high))
all_fails p a (suc n) k low high is = elim (eq-or-lt_of_le low) [
  | inl same ↦ ap (λ (b : Bool). b && list_all p (range_with_len (a + 1) n)) (ap p same ∙ is)
  | inr lt ↦ ap (λ (b : Bool). p a && b) (all_fails p (a + 1) n k (omega (arith, lt)) (omega (arith, high)) is) ∙ and_no (p a)
]

all_hold : (p : ℕ → Bool) (a n : ℕ) → ((k : ℕ) → a ≤ k → k < a + n → p k ≡ true) → list_all p (range_with_len a n) ≡ true
all_hold p a zero each = refl
all_hold p a (suc n) each = and_from (p a) (list_all p (range_with_len (a + 1) n)) (each a (omega arith) (omega arith))
    (all_hold p (a + 1) n (λ k low high. each k (omega (arith, low)) (omega (arith, high))))

pub further_at : (front other : List ℕ) (w : ℕ) → w < length front → nat_lt (place_in other w) (place_in front w) ≡ true → false ≡ is_no_further front other
unfolding is_no_further
further_at front other w lt less =
    sym (all_fails (λ k. nat_le (place_in front k) (place_in other k)) 0 (length front) w (omega arith) (omega (arith, lt)) (not_le (place_in front w) (place_in other w) less))

pub no_further : (front other : List ℕ) (n : ℕ) → length front ≤ n → ((k : ℕ) → k < n → nat_le (place_in front k) (place_in other k) ≡ true) → true ≡ is_no_further front other
unfolding is_no_further
no_further front other n le each =
    sym (all_hold (λ k. nat_le (place_in front k) (place_in other k)) 0 (length front) (λ k low high. each k (omega (arith, high, le))))

pub unlike_at : (front other : List ℕ) (w : ℕ) → length front ≡ length other → w < length front → ((k : ℕ) → k < w → place_in front k ≡ place_in other k)
    → (place_in front w == place_in other w) ≡ false → w ≡ first_unlike front other
unlike_at [] other w same lt before differ = absurd (omega (arith, lt))
unlike_at (n ∷ front) [] w same lt before differ = absurd (omega (arith, same))
unlike_at (n ∷ front) (m ∷ other) zero same lt before differ = sym (ap (λ (b : Bool). if b then suc (first_unlike front other) else 0) differ)
unlike_at (n ∷ front) (m ∷ other) (suc w) same lt before differ =
    ap suc (unlike_at front other w (omega (arith, same)) (omega (arith, lt)) (λ k early. before (suc k) (omega (arith, early))) differ)
    ∙ sym (ap (λ (b : Bool). if b then suc (first_unlike front other) else 0) (eq-eqb n m (before 0 (omega arith))))

pub all_alike : (front other : List ℕ) → length front ≡ length other → ((k : ℕ) → k < length front → place_in front k ≡ place_in other k) → length front ≡ first_unlike front other
all_alike [] other same each = refl
all_alike (n ∷ front) [] same each = absurd (omega (arith, same))
all_alike (n ∷ front) (m ∷ other) same each =
    let rest : length front ≡ first_unlike front other = all_alike front other (omega (arith, same)) (λ k lt. each (suc k) (omega (arith, lt))) in
    let here : (if n == m then suc (first_unlike front other) else 0) ≡ suc (first_unlike front other) =
    ap (λ (b : Bool). if b then suc (first_unlike front other) else 0) (eq-eqb n m (each 0 (omega arith))) in
    omega (arith, rest, here)

pub unordered_is : (line : ℕ) (front other : List ℕ) (place a b : ℕ) → place ≡ first_unlike front other → a ≡ place_in front place → b ≡ place_in other place
    → record { line = line; kept = Number a; lawful = Number b } ≡ (order_test line front other).failure
unfolding order_test
unordered_is line front other place a b is kept lawful =
    ap₂ (λ (x y : ℕ). record { line = line; kept = Number x; lawful = Number y }) (kept ∙ ap (place_in front) is) (lawful ∙ ap (place_in other) is)

pub order_holds : (line : ℕ) (front other : List ℕ) → (order_test line front other).holds ≡ (is_no_further other front || is_no_further front other)
unfolding order_test
order_holds line front other = refl

pub shown_fails : (line : ℕ) (r : Rules) (table : TableView) (keys : List FlowKey) (shown : List ℤ) (k : ℕ) (kept lawful : ℤ) → k < length keys
    → AllPass (shown_test line r table keys shown) k → kept ≡ get_or shown k (pos 0) → lawful ≡ r.estimate table.shape table.cells (get_or keys k zero_key)
    → int_eq kept lawful ≡ false
    → Some (record { line = line; kept = Signed kept; lawful = Signed lawful }) ≡ first_failing (map (shown_test line r table keys shown) (range_with_len 0 (length keys)))
shown_fails line r table keys shown k kept lawful lt before is said differ =
    let fails : int_eq (get_or shown k (pos 0)) (r.estimate table.shape table.cells (get_or keys k zero_key)) ≡ false =
    ap₂ (λ (a b : ℤ). int_eq a b) (sym is) (sym said) ∙ differ in
    ap₂ (λ (a b : ℤ). Some (record { line = line; kept = Signed a; lawful = Signed b })) is said
    ∙ sym (fails_at (shown_test line r table keys shown) (length keys) k lt before fails)

pub is_within : (line : ℕ) (lists : List (Vec Push)) (front : List ℕ) (w sent number : ℕ) → sent ≡ length (sent_by (lists_of lists) w) → number ≡ place_in front w
    → nat_lt sent number ≡ false → (within_test line (lists_of lists) front w).holds ≡ true
unfolding within_test
is_within line lists front w sent number is at less = ap₂ (λ (a b : ℕ). nat_le a b) (sym at) (sym is) ∙ is_le number sent less

pub rises : (line : ℕ) (before front : List ℕ) (w : ℕ) → nat_lt (place_in front w) (place_in before w) ≡ false → (rising_test line before front w).holds ≡ true
unfolding rising_test
rises line before front w less = is_le (place_in before w) (place_in front w) less

module _ (line : ℕ) (front : List ℕ) (j : Journal) where
  abbrev order_at : ℕ → Test
  order_at e = order_test line front (answer_at (content_of j) e).front

  order_is : (e : ℕ) (a : Answer) (other : List ℕ) → slice_get j.lists.answers.items e ≡ Some a → other ≡ a.front.items → order_at e ≡ order_test line front other
  order_is e a other at is = ap (order_test line front) (front_is j e a at ∙ sym is)

  pub order_fails : (n e : ℕ) (a : Answer) (other : List ℕ) (ordered : Bool) (failure : Failure) → slice_get j.lists.answers.items e ≡ Some a → other ≡ a.front.items → e < n
      → AllPass order_at e → ordered ≡ (is_no_further other front || is_no_further front other) → ordered ≡ false → failure ≡ (order_test line front other).failure
      → Some failure ≡ first_failing (map order_at (range_with_len 0 n))
  order_fails n e a other ordered failure at is lt before tested fails said =
      let here = order_is e a other at is in
      ap (λ (f : Failure). Some f) (said ∙ sym (ap (λ (t : Test). t.failure) here))
      ∙ sym (fails_at order_at n e lt before (ap (λ (t : Test). t.holds) here ∙ order_holds line front other ∙ sym tested ∙ fails))

  pub order_more : (e : ℕ) (a : Answer) (other : List ℕ) (ordered : Bool) → slice_get j.lists.answers.items e ≡ Some a → other ≡ a.front.items
      → AllPass order_at e → ordered ≡ (is_no_further other front || is_no_further front other) → ordered ≡ true → AllPass order_at (e + 1)
  order_more e a other ordered at is before tested holds =
      pass_more order_at e before (ap (λ (t : Test). t.holds) (order_is e a other at is) ∙ order_holds line front other ∙ sym tested ∙ holds)
