-- The set bits of a list are the places that a rising list has.
use Rattle.std.proofs.Common.{◌≡◌, ◌≢◌, ◌<◌, ◌≤◌, ℕ, suc, ◌+◌, ◌==◌, ◌||◌, List, [], ◌∷◌, length, get_or, Bool, true, false, refl, sym, ap, ◌∙◌, subst, arith, ap₂, inl, inr}
use Rattle.std.specs.Prelude.{All}
use Rattle.std.specs.List.Sorted.{IsStrictlyIncreasing}
use Rattle.std.proofs.Math.Nat.{eq-or-lt_of_le}
use Rattle.std.proofs.lemmas.List.Elements.{All-cons, All-head, All-tail}
use Rattle.std.proofs.lemmas.List.Folds.{list_any_none}
use Rattle.std.proofs.lemmas.List.Kept.{AllPairs-from_increasing}
use Rattle.hash_rows.specs.Marks.{marked_from, marked}
use Rattle.push_history.specs.Pushes.{is_refused}
use Rattle.push_history.proofs.Lists.{each_fails}

rising_tail : (x : ℕ) (xs : List ℕ) → IsStrictlyIncreasing (x ∷ xs) → IsStrictlyIncreasing xs
rising_tail x xs rising = λ k lt.
    let at : suc k + 1 ≡ suc (k + 1) = omega arith in
    subst (λ (n : ℕ). get_or xs k 0 < get_or (x ∷ xs) n 0) at (rising (suc k) (omega (arith, lt)))

-- all behind the first are above it
rising_above : (x : ℕ) (xs : List ℕ) → IsStrictlyIncreasing (x ∷ xs) → All (λ y. x < y) xs
rising_above x xs rising = λ k d lt. AllPairs-from_increasing (x ∷ xs) rising 0 (suc k) d (omega arith) (omega (arith, lt))

absent : (k : ℕ) (xs : List ℕ) → All (λ y. k < y) xs → is_refused k xs ≡ false
absent k xs above = list_any_none (λ j. j == k) xs (λ i d lt. let up = above i d lt in grind arith)

-- the list from a place on has the marks from there on
record AreMarked (place : ℕ) (bits : List Bool) (xs : List ℕ) : Type 0 where
  pub rising : IsStrictlyIncreasing xs
  pub from : All (λ x. place ≤ x) xs
  pub below : All (λ x. x < place + length bits) xs
  pub marks : (k : ℕ) → get_or bits k false ≡ is_refused (place + k) xs

set_bit : (place : ℕ) (bits : List Bool) (xs : List ℕ) → AreMarked place (true ∷ bits) xs → ((ys : List ℕ) → AreMarked (place + 1) bits ys → marked_from (place + 1) bits ≡ ys)
    → place ∷ marked_from (place + 1) bits ≡ xs
set_bit place bits [] h rest = absurd (let no : true ≡ false = h.marks 0 in cc)
set_bit place bits (y ∷ ys) h rest = elim (eq-or-lt_of_le (All-head (λ x. place ≤ x) y ys h.from)) [
  | inl e ↦ ap₂ (λ x t. x ∷ t) e (rest ys (record {
    rising = rising_tail y ys h.rising;
    from = λ k d lt. omega (arith, e, rising_above y ys h.rising k d lt);
    below = λ k d lt. omega (arith, All-tail (λ x. x < place + length (true ∷ bits)) y ys h.below k d lt);
    marks = λ k.
        let at : place + suc k ≡ place + 1 + k = omega arith in
        let other : (y == place + 1 + k) ≡ false = grind (arith, e) in
        h.marks (suc k) ∙ ap (λ (n : ℕ). is_refused n (y ∷ ys)) at ∙ ap (λ b. b || is_refused (place + 1 + k) ys) other;
  }))
  | inr lt ↦ absurd (let here : place + 0 ≡ place = omega arith in
      let above = rising_above y ys h.rising in
      let none : is_refused place (y ∷ ys) ≡ false = absent place (y ∷ ys) (All-cons (λ x. place < x) y ys lt (λ k d within. omega (arith, lt, above k d within))) in
      let no : true ≡ false = h.marks 0 ∙ ap (λ (n : ℕ). is_refused n (y ∷ ys)) here ∙ none in cc)
]

clear_bit : (place : ℕ) (bits : List Bool) (xs : List ℕ) → AreMarked place (false ∷ bits) xs → AreMarked (place + 1) bits xs
clear_bit place bits xs h =
    let here : place + 0 ≡ place = omega arith in
    let none : is_refused place xs ≡ false = ap (λ (n : ℕ). is_refused n xs) (sym here) ∙ sym (h.marks 0) in
    record {
      rising = h.rising;
      from = λ k d lt. (let other = each_fails (λ j. j == place) xs none k d lt in
          let ne : get_or xs k d ≢ place = (λ e. let yes : (get_or xs k d == place) ≡ true = grind arith in let no : true ≡ false = sym yes ∙ other in absurd (cc)) in
          omega (arith, h.from k d lt, ne));
      below = λ k d lt. omega (arith, h.below k d lt);
      marks = λ k. (let at : place + suc k ≡ place + 1 + k = omega arith in h.marks (suc k) ∙ ap (λ (n : ℕ). is_refused n xs) at);
    }

marked_from_is : (bits : List Bool) (place : ℕ) (xs : List ℕ) → AreMarked place bits xs → marked_from place bits ≡ xs
marked_from_is [] place [] h = refl
marked_from_is [] place (x ∷ xs) h = absurd (omega (arith, All-head (λ y. place ≤ y) x xs h.from, All-head (λ y. y < place + length {A = Bool} []) x xs h.below))
marked_from_is (true ∷ bits) place xs h = set_bit place bits xs h (λ ys below. marked_from_is bits (place + 1) ys below)
marked_from_is (false ∷ bits) place xs h = marked_from_is bits (place + 1) xs (clear_bit place bits xs h)

-- a rising list below the number of bits
pub marked_is : (bits : List Bool) (xs : List ℕ) → IsStrictlyIncreasing xs → All (λ x. x < length bits) xs → ((k : ℕ) → get_or bits k false ≡ is_refused k xs) → marked bits ≡ xs
marked_is bits xs rising below marks = marked_from_is bits 0 xs (record {
  rising = rising;
  from = λ k d lt. omega arith;
  below = λ k d lt. omega (arith, below k d lt);
  marks = λ k. (let at : k ≡ 0 + k = omega arith in marks k ∙ ap (λ (n : ℕ). is_refused n xs) at);
})
