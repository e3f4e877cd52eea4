-- Filters, lists that grow at their end, and lists made from a function.
use Rattle.std.proofs.Common.{zero, suc, take, ◌||◌, ◌≡◌, ◌≢◌, ◌<◌, ◌≤◌, ◌==◌, ℕ, ◌+◌, List, [], ◌∷◌, ◌++◌, length, get_or, set, Bool, true, false, refl, sym, ap, ◌∙◌, subst, arith, ◌⊎◌, inl, inr}
use Rattle.std.specs.Prelude.{filter, map, All, if◌then◌else◌}
use Rattle.std.specs.List.{list_any, range_with_len}
use Rattle.std.specs.List.Sorted.{IsStrictlyIncreasing}
use Rattle.std.proofs.lemmas.Bool.Decides.{nat_tests}
use Rattle.std.proofs.lemmas.List.{map-append, append-nil, get_or_append_left, get_or_push, length_push, length-set, get_or-set_same, get_or-set_other}
use Rattle.std.proofs.lemmas.List.Elements.{All-head, All-tail, filter-append}
use Rattle.std.proofs.lemmas.List.FromFn.{length-map-range_with_len, get_or-map-range_with_len, fill_by_all}
use Rattle.std.proofs.Math.Nat.{eq-or-lt_of_le}

or_false : (a b : Bool) → (a || b) ≡ false → (a ≡ false) × (b ≡ false)
or_false true b is = absurd (cc)
or_false false b is = (refl, is)

-- what passes whole is kept
pub filter_kept : {X : Type 0} (p : X → Bool) (xs : List X) → All (λ x. p x ≡ true) xs → filter p xs ≡ xs
filter_kept p [] all = refl
filter_kept p (x ∷ xs) all =
    let yes : p x ≡ true = All-head (λ y. p y ≡ true) x xs all in
    rw yes (ap (λ t. x ∷ t) (filter_kept p xs (All-tail (λ y. p y ≡ true) x xs all)))

-- one more that doesn't pass
pub filter_push_no : {X : Type 0} (p : X → Bool) (xs : List X) (x : X) → p x ≡ false → filter p (xs ++ x ∷ []) ≡ filter p xs
filter_push_no p xs x fails = filter-append p xs (x ∷ []) ∙ rw fails (append-nil (filter p xs))

pub filter_push_yes : {X : Type 0} (p : X → Bool) (xs : List X) (x : X) → p x ≡ true → filter p (xs ++ x ∷ []) ≡ filter p xs ++ x ∷ []
filter_push_yes p xs x passes = filter-append p xs (x ∷ []) ∙ rw passes refl

-- the values of those that pass, after one more
pub kept_push : {X Y : Type 0} (p : X → Bool) (v : X → Y) (xs : List X) (x : X)
    → map v (filter p (xs ++ x ∷ [])) ≡ (if p x then map v (filter p xs) ++ v x ∷ [] else map v (filter p xs))
kept_push {X} {Y} p v xs x =
    ap (map v) (filter-append p xs (x ∷ [])) ∙ map-append v (filter p xs) (filter p (x ∷ []))
    ∙ elim (p x) as (λ b. map v (filter p xs) ++ map v (if b then x ∷ [] else []) ≡ (if b then map v (filter p xs) ++ v x ∷ [] else map v (filter p xs)))
    [ true ↦ refl | false ↦ append-nil (map v (filter p xs)) ]

-- a number below one more than the length is the length or below it
pub last_or_before : {X : Type 0} (xs : List X) (x : X) (k : ℕ) → k < length (xs ++ x ∷ []) → (k ≡ length xs) ⊎ (k < length xs)
last_or_before xs x k lt = eq-or-lt_of_le (omega (arith, length_push xs x))

increases_by : (xs : List ℕ) (x k : ℕ) → IsStrictlyIncreasing xs → All (λ y. y < x) xs → (k + 1 ≡ length xs) ⊎ (k + 1 < length xs)
    → get_or (xs ++ x ∷ []) k 0 < get_or (xs ++ x ∷ []) (k + 1) 0
increases_by xs x k rising below (inl last) =
    rw (get_or_append_left xs (x ∷ []) 0 k (omega arith), get_or_push xs x 0 (k + 1) (sym last)) (below k 0 (omega arith))
increases_by xs x k rising below (inr early) =
    rw (get_or_append_left xs (x ∷ []) 0 k (omega arith), get_or_append_left xs (x ∷ []) 0 (k + 1) early) (rising k early)

-- a number above all goes to the end of a list that rises
pub increasing_push : (xs : List ℕ) (x : ℕ) → IsStrictlyIncreasing xs → All (λ y. y < x) xs → IsStrictlyIncreasing (xs ++ x ∷ [])
increasing_push xs x rising below = λ k lt. increases_by xs x k rising below (last_or_before xs x (k + 1) lt)

filter_none : {X : Type 0} (p : X → Bool) (xs : List X) → ((k : ℕ) (d : X) → k < length xs → p (get_or xs k d) ≡ false) → filter p xs ≡ []
filter_none p [] none = refl
filter_none p (x ∷ xs) none =
    let fails : p x ≡ false = none 0 x (omega arith) in
    rw fails (filter_none p xs (λ k d lt. none (suc k) d (omega (arith, lt))))

-- where the first j pass and no later one does
pub filter_front : {X : Type 0} (p : X → Bool) (xs : List X) (j : ℕ)
    → ((k : ℕ) (d : X) → k < j → k < length xs → p (get_or xs k d) ≡ true)
    → ((k : ℕ) (d : X) → j ≤ k → k < length xs → p (get_or xs k d) ≡ false) → filter p xs ≡ take j xs
filter_front p [] zero front back = refl
filter_front p [] (suc j) front back = refl
filter_front p (x ∷ xs) zero front back = filter_none p (x ∷ xs) (λ k d lt. back k d (omega arith) lt)
filter_front p (x ∷ xs) (suc j) front back =
    let passes : p x ≡ true = front 0 x (omega arith) (omega arith) in
    rw passes (ap (λ t. x ∷ t) (filter_front p xs j (λ k d lt within. front (suc k) d (omega (arith, lt)) (omega (arith, within))) (λ k d le within. back (suc k) d (omega (arith, le)) (omega (arith, within)))))

-- tests that agree on the list keep the same
pub filter_same : {X : Type 0} (p q : X → Bool) (xs : List X) → ((k : ℕ) (d : X) → k < length xs → p (get_or xs k d) ≡ q (get_or xs k d)) → filter p xs ≡ filter q xs
filter_same p q [] same = refl
filter_same p q (x ∷ xs) same =
    rw (same 0 x (omega arith)) (ap (λ t. if q x then x ∷ t else t) (filter_same p q xs (λ k d lt. same (suc k) d (omega (arith, lt)))))

-- where none passes, each fails
pub each_fails : {X : Type 0} (p : X → Bool) (xs : List X) → list_any p xs ≡ false → (k : ℕ) (d : X) → k < length xs → p (get_or xs k d) ≡ false
each_fails p [] none k d lt = absurd (omega (arith, lt))
each_fails p (x ∷ xs) none zero d lt = (or_false (p x) (list_any p xs) none).0
each_fails p (x ∷ xs) none (suc k) d lt = each_fails p xs (or_false (p x) (list_any p xs) none).1 k d (omega (arith, lt))

-- the place of one that passes
pub some_passes : {X : Type 0} (p : X → Bool) (xs : List X) → list_any p xs ≡ true → (k : ℕ) × (k < length xs) × ((d : X) → p (get_or xs k d) ≡ true)
some_passes p [] some = absurd (cc)
some_passes p (x ∷ xs) some = some_by p x xs (p x) refl some (λ later. some_passes p xs later)
  where
    some_by : {X : Type 0} (p : X → Bool) (x : X) (xs : List X) (b : Bool) → p x ≡ b → (b || list_any p xs) ≡ true
        → (list_any p xs ≡ true → (k : ℕ) × (k < length xs) × ((d : X) → p (get_or xs k d) ≡ true))
        → (k : ℕ) × (k < length (x ∷ xs)) × ((d : X) → p (get_or (x ∷ xs) k d) ≡ true)
    some_by p x xs true is some later = (0, omega arith, λ d. is)
    some_by p x xs false is some later = let at = later some in (suc at.0, omega (arith, at.1), λ d. at.2 d)

-- a list made from f, with one item changed, is made from g, where g is f elsewhere
pub set_made : {A : Type 0} (f g : ℕ → A) (xs : List A) (n i : ℕ) (y d : A) → xs ≡ map f (range_with_len 0 n) → i < n → g i ≡ y
    → ((k : ℕ) → (i == k) ≡ false → g k ≡ f k) → set xs i y ≡ map g (range_with_len 0 n)
set_made f g xs n i y d is inside here others =
    let long : length xs ≡ n = ap length is ∙ length-map-range_with_len f 0 n in
    fill_by_all g (set xs i y) n d (length-set xs i y ∙ long) (λ k lt. by k lt (i == k) refl)
  where
    by : (k : ℕ) → k < n → (b : Bool) → (i == k) ≡ b → get_or (set xs i y) k d ≡ g k
    by k lt true same =
        let e : i ≡ k = grind (arith, nat_tests) in
        let long : length xs ≡ n = ap length is ∙ length-map-range_with_len f 0 n in
        subst (λ j. get_or (set xs i y) j d ≡ g j) e (get_or-set_same xs i y d (omega (arith, long)) ∙ sym here)
    by k lt false apart =
        let e : k ≢ i = grind (arith, nat_tests) in
        get_or-set_other xs i k y d e ∙ (ap (λ l. get_or l k d) is ∙ (get_or-map-range_with_len f 0 n k k d lt (omega arith) ∙ sym (others k apart)))
