-- How long a list is that is filtered or grows by one.
use Rattle.std.proofs.Common.{◌≡◌, ℕ, ◌+◌, ◌≤◌, Bool, List, [], ◌∷◌, ◌++◌, length, filter, ap, ◌∙◌, arith, length-append}
use Rattle.std.proofs.lemmas.List.Sums.{length-filter, count_by-le-length}

-- a filtered list is at most as long
pub filter_length : {A : Type 0} (p : A → Bool) (xs : List A) → length (filter p xs) ≤ length xs
filter_length p xs = omega (arith, length-filter p xs, count_by-le-length p xs)

pub one_longer : {A : Type 0} (xs ys : List A) (x : A) (n : ℕ) → ys ≡ xs ++ x ∷ [] → length xs ≡ n → length ys ≡ n + 1
one_longer xs ys x n is long = ap length is ∙ (length-append xs (x ∷ []) ∙ ap (λ k. k + 1) long)
