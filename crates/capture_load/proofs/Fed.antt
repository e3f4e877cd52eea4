-- What a reader has taken of a piece.
use Rattle.std.proofs.Common.{◌≡◌, ℕ, ◌+◌, ◌-◌, List, ◌++◌, length, take, drop, sym, ap, ◌∙◌, append_assoc}
use Rattle.std.proofs.lemmas.List.{take_rest, take-append-drop}
use Rattle.std.proofs.Math.Seq.{take-add}

pub more_taken : (b piece : List ℕ) (n m : ℕ) → (b ++ take n piece) ++ take m (take (length piece - n) (drop n piece)) ≡ b ++ take (n + m) piece
more_taken b piece n m =
    append_assoc b (take n piece) (take m (take (length piece - n) (drop n piece)))
    ∙ ap (λ (t : List ℕ). b ++ t) (ap (λ (t : List ℕ). take n piece ++ take m t) (take_rest piece n) ∙ sym (take-add n m piece))

-- what was taken, and the whole rest of the piece
pub rest_taken : (b piece : List ℕ) (n : ℕ) → (b ++ take n piece) ++ take (length piece - n) (drop n piece) ≡ b ++ piece
rest_taken b piece n =
    append_assoc b (take n piece) (take (length piece - n) (drop n piece))
    ∙ ap (λ (t : List ℕ). b ++ t) (ap (λ (t : List ℕ). take n piece ++ t) (take_rest piece n) ∙ take-append-drop n piece)
