-- What a text in memory holds.
use Rattle.std.specs.Prelude.{ℕ, List}

-- its bytes, and how often a write failed
pub record TextHeld : Type 0 where
  pub held : List ℕ
  pub faults : ℕ
