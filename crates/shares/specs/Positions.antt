-- The positions of a worker's packets.
use Rattle.std.specs.Prelude.{◌<◌, ◌^◌, ℕ, ◌+◌, ◌*◌, List, All, map}
use Rattle.std.specs.List.{range_with_len}
use Rattle.std.specs.List.Sorted.{IsStrictlyIncreasing}
use Rattle.shares.specs.declared.positions.Form.{Form}
use Rattle.shares.specs.declared.positions.Form.TheVariants.{Turns, Listed}

-- the positions, one after another
abbrev pub positions_in : Form → List ℕ
positions_in (Turns first step count) = map (λ k. first + step * k) (range_with_len 0 count)
positions_in (Listed list) = list.items

-- each position fits in 32 bits
abbrev pub HasShortPositions : Form → Type 0
HasShortPositions (Turns first step count) = first + step * count < 2 ^ 32
HasShortPositions (Listed _) = Unit {0}

-- a rising list of positions, each below the number
pub record AreRising (number : ℕ) (positions : List ℕ) : Type 0 where
  pub rising : IsStrictlyIncreasing positions
  pub within : All (λ i. i < number) positions
