-- The rule of the history's book, and what its steps tell.
use Rattle.std.specs.Prelude.{ℕ, ◌≡◌, ◌==◌, true, List, [], ◌∷◌, ◌++◌, length, MatchBool}
use Rattle.logbook.specs.Pages.{Cell, Step, View, Book, Named}
use Rattle.hash_rows.specs.declared.shape.Push.{Push}

-- the first word is the length of the history. A book has two words, of which this one leaves the second at 0
abbrev pub HoldsLength : List Cell → List Push → Type 0
HoldsLength cells log = cells ≡ (length log, true) ∷ (0, true) ∷ []

-- the name of the book's first word
abbrev pub head_of : Book → Named
head_of b = record { tracked = true; key = 0; book = b }

-- the message was added to all that had been seen; or the history was longer
abbrev pub Adds : Step Push → View Push ℕ → ℕ → View Push ℕ → Type 0
Adds s v found w = MatchBool (found == s.old) (w.0 ≡ v.0 ++ s.ask ∷ []) (Unit {0})
