-- Tests of a word that come before its parse.
use Rattle.std.specs.Prelude.{◌==◌, ◌||◌, ◌&&◌, Bool, true, false, not, [], ◌∷◌}
use Rattle.words.specs.Grammar.{Text}

-- more than one byte, the first a hyphen
abbrev pub is_long_rest : Text → Bool
is_long_rest [] = false
is_long_rest (y ∷ []) = false
is_long_rest (y ∷ z ∷ zs) = y == 45

-- the word is no lone hyphen, does not begin with a single one, and is not `--`
abbrev pub is_form : Text → Bool
is_form [] = true
is_form (x ∷ xs) = not (x == 45) || is_long_rest xs

-- the text has a first byte, which is no sign, and no zero before another byte
abbrev pub is_plain : Text → Bool
is_plain [] = false
is_plain (x ∷ []) = not (x == 43)
is_plain (x ∷ y ∷ ys) = not (x == 43) && not (x == 48)
