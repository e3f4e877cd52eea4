-- The pieces into which a byte cuts a text.
use Rattle.std.specs.Prelude.{◌==◌, ℕ, List, [], if◌then◌else◌, drop, length, nat_lt}
use Rattle.std.specs.List.{slice_split}

-- those from a place on; behind the end of the text there is none
abbrev pub pieces_from : ℕ → List ℕ → ℕ → List (List ℕ)
pieces_from separator text start = if nat_lt (length text) start then [] else slice_split (λ b. b == separator) (drop start text)
