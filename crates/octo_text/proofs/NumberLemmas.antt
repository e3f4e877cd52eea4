-- Numbers that are added to a line one after another.
use Rattle.std.proofs.Common.{◌≡◌, ℕ, ◌+◌, ◌<◌, List, ◌++◌, length, take, get_or, ap, sym, ◌∙◌, append_assoc}
use Rattle.std.specs.List.{flat_map}
use Rattle.std.proofs.lemmas.List.{take_more, flat_map_more}

pub one_number_more : {X : Type 0} (text : X → List ℕ) (start line now words digits : List ℕ) (xs : List X) (i : ℕ) (d : X) → i < length xs
    → line ≡ start ++ flat_map text (take i xs) → now ≡ line ++ words ++ digits → words ++ digits ≡ text (get_or xs i d)
    → now ≡ start ++ flat_map text (take (i + 1) xs)
one_number_more {X = X} text start line now words digits xs i d within before is item =
    is
    ∙ append_assoc line words digits
    ∙ ap (λ (t : List ℕ). t ++ (words ++ digits)) before
    ∙ ap (λ (t : List ℕ). (start ++ flat_map text (take i xs)) ++ t) item
    ∙ flat_map_more text start (take i xs) (get_or xs i d)
    ∙ ap (λ (ys : List X). start ++ flat_map text ys) (sym (take_more xs i d within))
