-- What readers see of the live state.
use Rattle.std.specs.Prelude.{◌≡◌, ◌<◌, ◌==◌, ◌^◌, ℕ, ◌+◌, List, Some, length, ◌≤◌, min, slice_get, if◌then◌else◌}
use Rattle.listed.specs.Listed.{Listed}
use Rattle.hash_rows.specs.declared.answer.Answer.{Answer}
use Rattle.hash_rows.specs.declared.options.Options.{Options}
use Rattle.hash_rows.specs.Rules.{Rules}
use Rattle.push_history.specs.LagRun.{Terms}
use Rattle.live_state.specs.Fold.{Fit, layout_in}
use Rattle.round_law.specs.OwnRounds.{folded_after}
use Rattle.push_history.specs.Looks.{IsLook}

-- all messages of a run fit the state, and can be counted
pub record Runs (r : Rules) (t : Terms) (o : Options) : Type 0 where
  pub rules : t.rules ≡ r
  pub workers : length t.updates ≡ o.workers
  pub fit : (n : ℕ) → Fit r (layout_in o) (folded_after t o n)
  pub few : (n : ℕ) → length (folded_after t o n) < 2 ^ 64

-- the looks that answer all asks: readers ask at the same moments
abbrev pub looks_wanted : Options → ℕ
looks_wanted o = if o.readers == 0 then 0 else o.asks

-- of the first rounds, as many as are wanted, there is one look each
pub record AreLooks (r : Rules) (t : Terms) (o : Options) (n : ℕ) (looks : Listed Answer) : Type 0 where
  pub room : looks.room ≡ looks_wanted o
  pub len : length looks.items ≡ min (looks_wanted o) n
  pub each : (k : ℕ) (a : Answer) → slice_get looks.items k ≡ Some a → IsLook r o (folded_after t o (k + 1)) a

-- all looks that are wanted, those behind the last round at its state
pub record AreAllLooks (r : Rules) (t : Terms) (o : Options) (rounds : ℕ) (looks : List Answer) : Type 0 where
  pub len : length looks ≡ looks_wanted o
  pub each : (k : ℕ) (a : Answer) → slice_get looks k ≡ Some a → IsLook r o (folded_after t o (min (k + 1) rounds)) a

-- those of the rounds are there, and maybe more
pub record AreMoreLooks (r : Rules) (t : Terms) (o : Options) (rounds : ℕ) (looks : Listed Answer) : Type 0 where
  pub room : looks.room ≡ looks_wanted o
  pub most : length looks.items ≤ looks_wanted o
  pub least : min (looks_wanted o) rounds ≤ length looks.items
  pub each : (k : ℕ) (a : Answer) → slice_get looks.items k ≡ Some a → IsLook r o (folded_after t o (min (k + 1) rounds)) a
