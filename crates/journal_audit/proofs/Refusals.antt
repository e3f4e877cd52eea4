-- Which test of a worker's refused updates fails first.
use Rattle.std.proofs.Common.{◌≡◌, ◌<◌, ◌≤◌, ℕ, suc, ◌+◌, ◌==◌, ◌||◌, List, [], ◌∷◌, ◌++◌, length, get_or, Bool, true, false, nat_lt, nat_le, refl, sym, ap, ◌∙◌, subst, arith, ◌⊎◌, inl, inr, true≢false}
use Rattle.std.specs.Prelude.{All, Option, Some, None, MatchOption}
use Rattle.std.specs.List.{flat_map}
use Rattle.std.specs.List.Sorted.{IsStrictlyIncreasing}
use Rattle.std.proofs.lemmas.Bool.{eqb-true, eq-eqb, le-leb, lt-leb, lt-ltb, le-ltb, cases_lt}
use Rattle.std.proofs.lemmas.List.Kept.{AllPairs-from_increasing}
use Rattle.hash_rows.specs.declared.options.Options.{Options}
use Rattle.hash_rows.specs.declared.shape.Push.{Push}
use Rattle.hash_rows.specs.declared.shape.Update.{Update}
use Rattle.push_history.specs.Journal.{rules_in}
use Rattle.push_history.specs.Pushes.{distance_at, is_refused}
use Rattle.push_history.specs.Told.{messages_before}
use Rattle.given_law.specs.Given.{given_messages, given_before}
use Rattle.given_law.proofs.Determined.{before_back, distance_back}
use Rattle.push_replay.specs.declared.replay.Fault.TheVariants.{TooNear, TooFew}
use Rattle.push_replay.specs.Replays.{AreFine, IsFirstFault, distance_given}
use Rattle.audit_law.specs.declared.failure.Failure.{Failure}
use Rattle.audit_law.specs.declared.failure.Value.TheVariants.{Number}
use Rattle.audit_law.specs.Tests.{Test, test, first_failing}
use Rattle.audit_law.specs.WorkerTests.{refused_tests}
use Rattle.audit_law.proofs.Failing.{failing_front, failing_back, failing_head, failing_tail}
use Rattle.audit_law.proofs.Holding.{Hold, hold_nil, hold_cons, hold_append}
use Rattle.journal_audit.specs.Past.{NonePast, IsFirstPast}

rising_tail : (x : ℕ) (xs : List ℕ) → IsStrictlyIncreasing (x ∷ xs) → IsStrictlyIncreasing xs
rising_tail x xs rising = λ k lt.
    let at : suc k + 1 ≡ suc (k + 1) = omega arith in
    subst (λ (n : ℕ). get_or xs k 0 < get_or (x ∷ xs) n 0) at (rising (suc k) (omega (arith, lt)))

has_each : (P : ℕ → Type 0) (F : List ℕ) (k : ℕ) → All P F → is_refused k F ≡ true → P k
has_each P [] k all is = absurd (cc)
has_each P (x ∷ xs) k all is = by (x == k) refl is (has_each P xs k (λ i d lt. all (suc i) d (omega (arith, lt))))
  where
    by : (b : Bool) → (x == k) ≡ b → (b || is_refused k xs) ≡ true → (is_refused k xs ≡ true → P k) → P k
    by true same is rest = subst P (eqb-true x k same) (all 0 x (omega arith))
    by false other is rest = rest is

later : (x i : ℕ) (xs : List ℕ) → is_refused i xs ≡ true → is_refused i (x ∷ xs) ≡ true
later x i xs its = elim (x == i) as (λ b. (b || is_refused i xs) ≡ true) [ true ↦ refl | false ↦ its ]

-- the tests of numbers that rise, where those of the numbers before k hold
module _ (f : ℕ → List Test) where
  pub failing_at : (F : List ℕ) (k : ℕ) (failure : Failure) → IsStrictlyIncreasing F → is_refused k F ≡ true
      → ((i : ℕ) → i < k → is_refused i F ≡ true → Hold (f i)) → first_failing (f k) ≡ Some failure → first_failing (flat_map f F) ≡ Some failure
  failing_at [] k failure rising is before fails = absurd (cc)
  failing_at (x ∷ xs) k failure rising is before fails =
      by (x == k) refl is (failing_at xs k failure (rising_tail x xs rising))
    where
      by : (b : Bool) → (x == k) ≡ b → (b || is_refused k xs) ≡ true
          → (is_refused k xs ≡ true → ((i : ℕ) → i < k → is_refused i xs ≡ true → Hold (f i)) → first_failing (f k) ≡ Some failure → first_failing (flat_map f xs) ≡ Some failure)
          → first_failing (f x ++ flat_map f xs) ≡ Some failure
      by true same is rest =
          let at : x ≡ k = eqb-true x k same in
          failing_front (f x) (flat_map f xs) failure (ap (λ (i : ℕ). first_failing (f i)) at ∙ fails)
      by false other is rest =
          let above : x < k = has_each (λ y. x < y) xs k (λ i d lt. AllPairs-from_increasing (x ∷ xs) rising 0 (suc i) d (omega arith) (omega (arith, lt))) is in
          let here : is_refused x (x ∷ xs) ≡ true = ap (λ (b : Bool). b || is_refused x xs) (eq-eqb x x refl) in
          failing_back (f x) (flat_map f xs) (before x above here)
          ∙ rest is (λ i lt its. before i lt (later x i xs its)) fails

  pub none_failing : (F : List ℕ) → ((i : ℕ) → is_refused i F ≡ true → Hold (f i)) → Hold (flat_map f F)
  none_failing [] each = hold_nil
  none_failing (x ∷ xs) each =
      hold_append (f x) (flat_map f xs) (each x (ap (λ (b : Bool). b || is_refused x xs) (eq-eqb x x refl))) (none_failing xs (λ i its. each i (later x i xs its)))

module _ (o : Options) (w : ℕ) (U : List Update) (F : List ℕ) (line : ℕ → ℕ) (rising : IsStrictlyIncreasing F) where
  abbrev S : List Push
  S = given_messages (rules_in o) w o.threshold U F

  abbrev tests : ℕ → List Test
  tests = refused_tests o U S line

  abbrev first_test : ℕ → Test
  first_test k = test (line k) (Number k) (Number (length U)) (nat_lt k (length U))

  abbrev second_test : ℕ → Test
  second_test k = test (line k) (Number (distance_at (rules_in o) U S k)) (Number o.threshold) (nat_le o.threshold (distance_at (rules_in o) U S k))

  abbrev third_test : ℕ → Test
  third_test k = test (line k) (Number (length (messages_before k S))) (Number o.lane) (nat_le o.lane (length (messages_before k S)))

  distance_is : (k : ℕ) → k < length U → distance_at (rules_in o) U S k ≡ distance_given (rules_in o) w o.threshold U F k
  unfolding given_messages
  distance_is k lt = distance_back (rules_in o) w o.threshold U F (length U) k (omega (arith, lt))

  before_is : (k : ℕ) → k < length U → length (messages_before k S) ≡ length (given_before (rules_in o) w o.threshold U F k)
  unfolding given_messages
  before_is k lt = ap length (before_back (rules_in o) w o.threshold U F (length U) k (omega (arith, lt)))

  fine_holds : (n k : ℕ) → n ≤ length U → k < n → AreFine (rules_in o) w o.threshold o.lane U F n → is_refused k F ≡ true → Hold (tests k)
  unfolding refused_tests
  fine_holds n k le lt fine its =
      let is = fine k lt its in
      let within : k < length U = omega (arith, lt, le) in
      hold_cons _ _ (lt-ltb k (length U) within)
      (hold_cons _ _ (le-leb o.threshold (distance_at (rules_in o) U S k) (omega (arith, is.0, distance_is k within)))
      (hold_cons _ _ (le-leb o.lane (length (messages_before k S)) (omega (arith, is.1, before_is k within))) hold_nil))

  pub near_fails : (k d : ℕ) → IsFirstFault (rules_in o) w o.threshold o.lane U F (Some (TooNear k d))
      → first_failing (flat_map tests F) ≡ Some (record { line = line k; kept = Number d; lawful = Number o.threshold })
  unfolding refused_tests
  near_fails k d h =
      let same : d ≡ distance_at (rules_in o) U S k = h.3 ∙ sym (distance_is k h.0) in
      failing_at tests F k (record { line = line k; kept = Number d; lawful = Number o.threshold }) rising h.1 (λ i lt its. fine_holds k i (omega (arith, h.0)) lt h.2 its)
      (failing_tail (first_test k) (second_test k ∷ third_test k ∷ []) (lt-ltb k (length U) h.0)
      ∙ failing_head (second_test k) (third_test k ∷ []) (lt-leb o.threshold (distance_at (rules_in o) U S k) (omega (arith, same, h.4)))
      ∙ ap (λ (n : ℕ). Some (record { line = line k; kept = Number n; lawful = Number o.threshold })) (sym same))

  pub few_fails : (k n : ℕ) → IsFirstFault (rules_in o) w o.threshold o.lane U F (Some (TooFew k n))
      → first_failing (flat_map tests F) ≡ Some (record { line = line k; kept = Number n; lawful = Number o.lane })
  unfolding refused_tests
  few_fails k n h =
      let same : n ≡ length (messages_before k S) = h.4 ∙ sym (before_is k h.0) in
      failing_at tests F k (record { line = line k; kept = Number n; lawful = Number o.lane }) rising h.1 (λ i lt its. fine_holds k i (omega (arith, h.0)) lt h.2 its)
      (failing_tail (first_test k) (second_test k ∷ third_test k ∷ []) (lt-ltb k (length U) h.0)
      ∙ failing_tail (second_test k) (third_test k ∷ []) (le-leb o.threshold (distance_at (rules_in o) U S k) (omega (arith, h.3, distance_is k h.0)))
      ∙ failing_head (third_test k) [] (lt-leb o.lane (length (messages_before k S)) (omega (arith, same, h.5)))
      ∙ ap (λ (m : ℕ). Some (record { line = line k; kept = Number m; lawful = Number o.lane })) (sym same))

  pub past_fails : (k : ℕ) → IsFirstFault (rules_in o) w o.threshold o.lane U F None → IsFirstPast F (length U) k
      → first_failing (flat_map tests F) ≡ Some (record { line = line k; kept = Number k; lawful = Number (length U) })
  unfolding refused_tests
  past_fails k fine first =
      failing_at tests F k (record { line = line k; kept = Number k; lawful = Number (length U) }) rising first.its (λ i lt its. before i lt its (cases_lt i (length U)))
      (failing_head (first_test k) (second_test k ∷ third_test k ∷ []) (le-ltb k (length U) first.past))
    where
      before : (i : ℕ) → i < k → is_refused i F ≡ true → (i < length U) ⊎ (length U ≤ i) → Hold (tests i)
      before i lt its (inl within) = fine_holds (length U) i (omega arith) within fine its
      before i lt its (inr past) = absurd (true≢false (sym its ∙ first.none i past lt))

  pub none_fails : IsFirstFault (rules_in o) w o.threshold o.lane U F None → NonePast F (length U) → first_failing (flat_map tests F) ≡ None
  none_fails fine none = (none_failing tests F (λ i its. each i its (cases_lt i (length U)))).none
    where
      each : (i : ℕ) → is_refused i F ≡ true → (i < length U) ⊎ (length U ≤ i) → Hold (tests i)
      each i its (inl within) = fine_holds (length U) i (omega arith) within fine its
      each i its (inr past) = absurd (true≢false (sym its ∙ none i past))

  -- the refused updates that are none of the worker's
  pub past_then : (n : ℕ) (result : Option Failure) → n ≡ length U → IsFirstFault (rules_in o) w o.threshold o.lane U F None
      → MatchOption result (NonePast F n) (λ failure. (k : ℕ) × IsFirstPast F n k × (failure ≡ record { line = line k; kept = Number k; lawful = Number n }))
      → result ≡ first_failing (flat_map tests F)
  past_then n None is fine none = sym (none_fails fine (subst (NonePast F) is none))
  past_then n (Some failure) is fine found =
      ap {B = Option Failure} (λ (x : Failure). Some x) (found.2 ∙ ap (λ (m : ℕ). record { line = line found.0; kept = Number found.0; lawful = Number m }) is)
      ∙ sym (past_fails found.0 fine (subst (λ (m : ℕ). IsFirstPast F m found.0) is found.1))
