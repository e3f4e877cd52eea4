-- Numbers that were put in rising order by moves alone are the numbers in rising order.
use Rattle.std.proofs.Common.{◌≡◌, ◌<◌, ◌≤◌, ◌+◌, ℕ, ℤ, pos, Bool, true, false, cond, List, [], ◌∷◌, zero, suc, length, get_or, refl, sym, ap, ap₂, ◌∙◌, arith, IsPermutation, IsSorted}
use Rattle.std.specs.Prelude.{int_lt, count_by}
use Rattle.std.specs.Ordering.{int_cmp, is_lt}
use Rattle.std.specs.declared.cmp.Ordering.TheVariants.{Less, Equal, Greater}
use Rattle.std.proofs.lemmas.Bool.{true≢false}
use Rattle.std.proofs.lemmas.Cmp.{int_cmp_total}
use Rattle.std.specs.List.{AllByRecursion}
use Rattle.std.specs.Prelude.{if◌then◌else◌}
use Rattle.std.proofs.lemmas.Int.{ints}
use Rattle.std.proofs.lemmas.List.Sums.{sum_by-cons}
use Rattle.std.proofs.lemmas.List.Sorted.{sum_by-IsPermutation, sorted_far, ranks_by}
use Rattle.hash_rows.specs.Sketches.{inserted, sorted_of}

-- no later number is below an earlier one
abbrev IsRising : List ℤ → Type 0
IsRising [] = Unit {0}
IsRising (x ∷ xs) = AllByRecursion (λ y. int_lt y x ≡ false) xs × IsRising xs

not_below-chain : (x y z : ℤ) → int_lt y x ≡ false → int_lt z y ≡ false → int_lt z x ≡ false
not_below-chain x y z p q = grind (arith, ints)

below_one_way : (x y : ℤ) → int_lt y x ≡ true → int_lt x y ≡ false
below_one_way x y p = grind (arith, ints)

same_from_both : (x y : ℤ) → int_lt y x ≡ false → int_lt x y ≡ false → x ≡ y
same_from_both x y p q = grind (arith, ints)

weaker : (P Q : ℤ → Type 0) → ((z : ℤ) → P z → Q z) → (xs : List ℤ) → AllByRecursion P xs → AllByRecursion Q xs
weaker P Q says [] all = tt
weaker P Q says (x ∷ xs) all = (says x all.0, weaker P Q says xs all.1)

-- how often a test passes
count-cons : (p : ℤ → Bool) (x : ℤ) (xs : List ℤ) → count_by p (x ∷ xs) ≡ cond (p x) 1 0 + count_by p xs
count-cons p x xs = sum_by-cons (λ y. cond (p y) 1 0) x xs

count-inserted : (p : ℤ → Bool) (x : ℤ) (ys : List ℤ) → count_by p (inserted x ys) ≡ count_by p (x ∷ ys)
count-inserted p x [] = refl
count-inserted p x (y ∷ ys) = by_test (int_lt y x) refl (count-inserted p x ys) where
  by_test : (test : Bool) → int_lt y x ≡ test → count_by p (inserted x ys) ≡ count_by p (x ∷ ys) → count_by p (inserted x (y ∷ ys)) ≡ count_by p (x ∷ y ∷ ys)
  by_test true less more =
      let deep : count_by p (y ∷ inserted x ys) ≡ count_by p (x ∷ y ∷ ys) =
      omega (arith, count-cons p y (inserted x ys), more, count-cons p x ys, count-cons p x (y ∷ ys), count-cons p y ys) in
      ap (λ b. count_by p (if b then y ∷ inserted x ys else x ∷ y ∷ ys)) less ∙ deep
  by_test false past more = ap (λ b. count_by p (if b then y ∷ inserted x ys else x ∷ y ∷ ys)) past

count-sorted_of : (p : ℤ → Bool) (xs : List ℤ) → count_by p (sorted_of xs) ≡ count_by p xs
count-sorted_of p [] = refl
count-sorted_of p (x ∷ xs) = count-inserted p x (sorted_of xs) ∙ count-cons p x (sorted_of xs) ∙ ap (λ n. cond (p x) 1 0 + n) (count-sorted_of p xs) ∙ sym (count-cons p x xs)

-- the list with a number put into its place
all-inserted : (P : ℤ → Type 0) (x : ℤ) (ys : List ℤ) → P x → AllByRecursion P ys → AllByRecursion P (inserted x ys)
all-inserted P x [] here all = (here, tt)
all-inserted P x (y ∷ ys) here all = by_test (int_lt y x) (all-inserted P x ys here all.1) where
  by_test : (test : Bool) → AllByRecursion P (inserted x ys) → AllByRecursion P (if test then y ∷ inserted x ys else x ∷ y ∷ ys)
  by_test true more = (all.0, more)
  by_test false more = (here, all)

rising-inserted : (x : ℤ) (ys : List ℤ) → IsRising ys → IsRising (inserted x ys)
rising-inserted x [] up = (tt, tt)
rising-inserted x (y ∷ ys) up = by_test (int_lt y x) refl (rising-inserted x ys up.1) where
  by_test : (test : Bool) → int_lt y x ≡ test → IsRising (inserted x ys) → IsRising (if test then y ∷ inserted x ys else x ∷ y ∷ ys)
  by_test true less more = (all-inserted (λ z. int_lt z y ≡ false) x ys (below_one_way x y less) up.0, more)
  by_test false past more =
      let rest = weaker (λ z. int_lt z y ≡ false) (λ z. int_lt z x ≡ false) (λ z. not_below-chain x y z past) ys up.0 in
      ((past, rest), up)

rising-sorted_of : (xs : List ℤ) → IsRising (sorted_of xs)
rising-sorted_of [] = tt
rising-sorted_of (x ∷ xs) = rising-inserted x (sorted_of xs) (rising-sorted_of xs)

-- none of these numbers is below x
none_below : (x : ℤ) (xs : List ℤ) → AllByRecursion (λ y. int_lt y x ≡ false) xs → count_by (λ y. int_lt y x) xs ≡ 0
none_below x [] all = refl
none_below x (y ∷ ys) all =
    count-cons (λ z. int_lt z x) y ys ∙ ap₂ (λ b n. cond b 1 0 + n) all.0 (none_below x ys all.1)

-- no first number of a rising list is below that of another with the same numbers
first_not_below : (x y : ℤ) (xs ys : List ℤ) → AllByRecursion (λ z. int_lt z x ≡ false) xs
    → count_by (λ z. int_lt z x) (x ∷ xs) ≡ count_by (λ z. int_lt z x) (y ∷ ys) → int_lt y x ≡ false
first_not_below x y xs ys all same = by_test (int_lt y x) refl where
  by_test : (test : Bool) → int_lt y x ≡ test → int_lt y x ≡ false
  by_test true less =
      let self : int_lt x x ≡ false = grind (arith, ints) in
      let none : count_by (λ z. int_lt z x) (x ∷ xs) ≡ 0 = none_below x (x ∷ xs) (self, all) in
      let one : cond {A = ℕ} (int_lt y x) 1 0 ≡ 1 = ap (λ b. cond {A = ℕ} b 1 0) less in
      absurd (omega (arith, count-cons (λ z. int_lt z x) y ys))
  by_test false past = past

-- rising lists of the same numbers are one
rising_once : (xs ys : List ℤ) → IsRising xs → IsRising ys → ((p : ℤ → Bool) → count_by p xs ≡ count_by p ys) → xs ≡ ys
rising_once [] [] up up' same = refl
rising_once [] (y ∷ ys) up up' same =
    let all = same (λ z. true) in absurd (omega (arith, count-cons (λ z. true) y ys))
rising_once (x ∷ xs) [] up up' same =
    let all = same (λ z. true) in absurd (omega (arith, count-cons (λ z. true) x xs))
rising_once (x ∷ xs) (y ∷ ys) up up' same =
    let first : x ≡ y = same_from_both x y (first_not_below x y xs ys up.0 (same (λ z. int_lt z x)))
    (first_not_below y x ys xs up'.0 (sym (same (λ z. int_lt z y)))) in
    ap₂ (λ z zs. z ∷ zs) first (rising_once xs ys up.1 up'.1
    (λ p. let heads : cond {A = ℕ} (p x) 1 0 ≡ cond (p y) 1 0 = ap (λ z. cond {A = ℕ} (p z) 1 0) first in
    omega (arith, same p, count-cons p x xs, count-cons p y ys)))

-- what holds at each index holds of each number
all_from_index : (P : ℤ → Type 0) (xs : List ℤ) → ((k : ℕ) → k < length xs → P (get_or xs k (pos 0))) → AllByRecursion P xs
all_from_index P [] at = tt
all_from_index P (x ∷ xs) at = (at zero (omega arith), all_from_index P xs (λ k within. at (suc k) (omega arith)))

rises_by_index : (ys : List ℤ) → ((i j : ℕ) → i ≤ j → j < length ys → int_lt (get_or ys j (pos 0)) (get_or ys i (pos 0)) ≡ false) → IsRising ys
rises_by_index [] far = tt
rises_by_index (y ∷ ys) far = (
  all_from_index (λ z. int_lt z y ≡ false) ys (λ k within. far zero (suc k) (omega arith) (omega arith)),
  rises_by_index ys (λ i j order within. far (suc i) (suc j) (omega arith) (omega arith)),
)

less_of_cmp : (x y : ℤ) → is_lt (int_cmp x y) ≡ false → int_lt x y ≡ false
less_of_cmp x y h = by_test (int_lt x y) refl where
  by_test : (test : Bool) → int_lt x y ≡ test → int_lt x y ≡ false
  by_test true less =
      let cmp : is_lt (int_cmp x y) ≡ true = ap (λ b. is_lt (cond b Less (cond (int_lt y x) Greater Equal))) less in
      absurd (true≢false (sym cmp ∙ h))
  by_test false past = past

sorted_rises : (ys : List ℤ) → IsSorted int_cmp ys → IsRising ys
sorted_rises ys up = rises_by_index ys (λ i j order within.
    less_of_cmp (get_or ys j (pos 0)) (get_or ys i (pos 0)) (sorted_far (λ x y. is_lt (int_cmp x y)) (ranks_by int_cmp_total (λ x. x)) ys up i j (pos 0) order within))

pub sorted_permutation : (xs ys : List ℤ) → IsPermutation xs ys → IsSorted int_cmp ys → ys ≡ sorted_of xs
sorted_permutation xs ys moved up =
    rising_once ys (sorted_of xs) (sorted_rises ys up) (rising-sorted_of xs)
    (λ p. sum_by-IsPermutation (λ y. cond (p y) 1 0) xs ys moved ∙ sym (count-sorted_of p xs))
