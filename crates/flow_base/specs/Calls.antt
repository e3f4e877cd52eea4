-- The calls to a source or a sink in memory, and which of them fail.
use Rattle.std.specs.Prelude.{◌≡◌, ℕ, ◌+◌, ◌-◌, ◌^◌, min, List, Contains, Result, MatchResult}

-- the numbers of the calls that fail, from 0, how many calls were made, and how many of these failed
pub record Calls : Type 0 where
  pub failing : List ℕ
  pub made : ℕ
  pub faults : ℕ

-- one more, up to the last value of a count
abbrev pub one_more : ℕ → ℕ
one_more count = min (count + 1) (2 ^ 64 - 1)

-- the next call is to fail
abbrev pub IsFailing : Calls → Type 0
IsFailing calls = Contains calls.failing calls.made

-- one more call was made, and counts as a fault exactly where it failed
abbrev pub Called : {T E : Type 0} → Calls → Calls → Result T E → Type 0
Called old new result =
    MatchResult result
    (λ _. new ≡ record old { made = one_more old.made })
    (λ _. new ≡ record old { made = one_more old.made; faults = one_more old.faults })
