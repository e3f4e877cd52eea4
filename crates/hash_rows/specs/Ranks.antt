-- What a private register stands for.
use Rattle.std.specs.Prelude.{◌≡◌, ◌≤◌, ℤ, pos}
use Rattle.hash_rows.specs.declared.ranks.RankHeld.{RankHeld}

-- it keeps two ranks, what was told and the whole
pub record StandsForRanks (held : RankHeld) (told whole : ℤ) : Type 0 where
  pub told_is : told ≡ pos held.told
  pub whole_is : whole ≡ pos held.whole
  pub most : held.whole ≤ 32
  pub behind : held.told ≤ held.whole
