-- Which places of a list a worker owns.
use Rattle.std.proofs.Common.{◌≡◌, ◌<◌, ◌≤◌, ℕ, zero, suc, ◌+◌, List, [], ◌∷◌, ◌++◌, length, length-append, Bool, true, false, if◌then◌else◌, refl, sym, ap, ◌∙◌, subst, arith, inl, inr, true≢false, get_or}
use Rattle.std.specs.Prelude.{filter}
use Rattle.std.specs.List.{range_with_len}
use Rattle.std.proofs.lemmas.Bool.{cases_lt}
use Rattle.std.proofs.lemmas.List.{append-nil}
use Rattle.std.proofs.lemmas.List.Elements.{filter-append}
use Rattle.push_history.proofs.Sharing.{range_more}

get_or_any : {A : Type 0} (xs : List A) (n : ℕ) (d e : A) → n < length xs → get_or xs n d ≡ get_or xs n e
get_or_any [] n d e lt = absurd (omega arith)
get_or_any (x ∷ xs) zero d e lt = refl
get_or_any (x ∷ xs) (suc n) d e lt = get_or_any xs n d e (omega arith)

bit : Bool → ℕ
bit true = 1
bit false = 0

bit_is : (b : Bool) → (if b then 1 else 0) ≡ bit b
unfolding bit
bit_is true = refl
bit_is false = refl

one_is : (b : Bool) → b ≡ true → bit b ≡ 1
unfolding bit
one_is true is = refl
one_is false is = absurd (true≢false (sym is))

pub at_most_one : (b : Bool) → (if b then 1 else 0) ≤ 1
at_most_one true = omega arith
at_most_one false = omega arith

module _ (p : ℕ → Bool) where
  added : (b : Bool) (xs : List ℕ) (n : ℕ) → xs ++ (if b then n ∷ [] else []) ≡ (if b then xs ++ n ∷ [] else xs)
  added true xs n = refl
  added false xs n = append-nil xs

  pub owned_more : (n : ℕ) → filter p (range_with_len 0 (n + 1)) ≡ (if p n then filter p (range_with_len 0 n) ++ n ∷ [] else filter p (range_with_len 0 n))
  owned_more n = ap (filter p) (range_more n) ∙ filter-append p (range_with_len 0 n) (n ∷ []) ∙ added (p n) (filter p (range_with_len 0 n)) n

  counted : (b : Bool) (xs : List ℕ) (n : ℕ) → length (if b then xs ++ n ∷ [] else xs) ≡ length xs + (if b then 1 else 0)
  counted true xs n = length-append xs (n ∷ [])
  counted false xs n = omega arith

  pub count_more : (n : ℕ) → length (filter p (range_with_len 0 (n + 1))) ≡ length (filter p (range_with_len 0 n)) + (if p n then 1 else 0)
  count_more n = ap length (owned_more n) ∙ counted (p n) (filter p (range_with_len 0 n)) n

  -- a place that is owned is one of all
  pub owned_room : (k n : ℕ) → k < n → p k ≡ true → length (filter p (range_with_len 0 k)) < length (filter p (range_with_len 0 n))
  owned_room k zero lt is = absurd (omega arith)
  owned_room k (suc n) lt is =
      let next : suc n ≡ n + 1 = omega arith in
      let more = count_more n in
      subst (λ m. length (filter p (range_with_len 0 k)) < length (filter p (range_with_len 0 m))) (sym next)
      (elim (cases_lt k n) [
        | inl early ↦ let before = owned_room k n early is in omega (arith, before, more)
        | inr late ↦
            let same : k ≡ n = omega (arith, late, lt) in
            let one : bit (p k) ≡ 1 = one_is (p k) is in
            subst (λ j. length (filter p (range_with_len 0 k)) < length (filter p (range_with_len 0 (j + 1)))) same
            (let mine = count_more k in let two = bit_is (p k) in omega (arith, mine, one, two))
      ])

-- what holds of the first items of a list, and of the next one
pub below_more : {A : Type 0} (P : A → Type 0) (xs : List A) (n : ℕ) (e : A) → n < length xs → ((k : ℕ) (d : A) → k < n → P (get_or xs k d)) → P (get_or xs n e)
    → (k : ℕ) (d : A) → k < n + 1 → P (get_or xs k d)
below_more {A} P xs n e lt before here k d below = elim (cases_lt k n) [
  | inl early ↦ before k d early
  | inr late ↦
      let same : k ≡ n = omega (arith, late, below) in
      subst (λ j. P (get_or xs j d)) (sym same) (subst P (get_or_any xs n e d lt) here)
]
