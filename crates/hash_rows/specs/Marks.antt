-- Which bits of a list are set.
use Rattle.std.specs.Prelude.{ℕ, ◌+◌, List, [], ◌∷◌, Bool, if◌then◌else◌}

-- the places of the set bits, upwards, where the first bit has this place
abbrev pub marked_from : ℕ → List Bool → List ℕ
marked_from place [] = []
marked_from place (bit ∷ bits) = if bit then place ∷ marked_from (place + 1) bits else marked_from (place + 1) bits

-- the places of the set bits of a list, upwards
abbrev pub marked : List Bool → List ℕ
marked bits = marked_from 0 bits
