-- The places of set bits rise, and are those of the refused updates.
use Rattle.std.proofs.Common.{◌≡◌, ◌<◌, ◌≤◌, ℕ, zero, suc, ◌+◌, List, [], ◌∷◌, get_or, Bool, true, false, subst, arith}
use Rattle.std.specs.Prelude.{All}
use Rattle.std.specs.List.Sorted.{IsStrictlyIncreasing}
use Rattle.std.proofs.lemmas.List.Elements.{All-nil, All-cons}
use Rattle.hash_rows.specs.Marks.{marked_from, marked}

rising_cons : (x : ℕ) (xs : List ℕ) → All (λ y. x < y) xs → IsStrictlyIncreasing xs → IsStrictlyIncreasing (x ∷ xs)
rising_cons x xs above rising zero lt = above 0 0 (omega (arith, lt))
rising_cons x xs above rising (suc k) lt =
    let at : suc (k + 1) ≡ suc k + 1 = omega arith in
    subst (λ (n : ℕ). get_or xs k 0 < get_or (x ∷ xs) n 0) at (rising k (omega (arith, lt)))

marked_above : (bits : List Bool) (place : ℕ) → All (λ k. place ≤ k) (marked_from place bits)
marked_above [] place = All-nil (λ k. place ≤ k)
marked_above (true ∷ bits) place = All-cons (λ k. place ≤ k) place (marked_from (place + 1) bits) (omega arith) (λ k d lt. let above = marked_above bits (place + 1) k d lt in omega (arith, above))
marked_above (false ∷ bits) place = λ k d lt. let above = marked_above bits (place + 1) k d lt in omega (arith, above)

marked_rise : (bits : List Bool) (place : ℕ) → IsStrictlyIncreasing (marked_from place bits)
marked_rise [] place = λ k lt. absurd (omega (arith, lt))
marked_rise (true ∷ bits) place =
    rising_cons place (marked_from (place + 1) bits) (λ k d lt. let above = marked_above bits (place + 1) k d lt in omega (arith, above)) (marked_rise bits (place + 1))
marked_rise (false ∷ bits) place = marked_rise bits (place + 1)

pub marked_rises : (bits : List Bool) → IsStrictlyIncreasing (marked bits)
marked_rises bits = marked_rise bits 0
