-- What a private cell of a sum stands for.
use Rattle.std.specs.Prelude.{◌≡◌, ℤ, true}
use Rattle.hash_rows.specs.declared.sums.SumHeld.{SumHeld}
use Rattle.hash_rows.specs.Sketches.{is_sum, sum_gap}

-- it keeps the gap of two values, what was told and the whole
pub record StandsForSums (held : SumHeld) (told whole : ℤ) : Type 0 where
  pub told_value : is_sum told ≡ true
  pub whole_value : is_sum whole ≡ true
  pub gap : held.gap ≡ sum_gap told whole
