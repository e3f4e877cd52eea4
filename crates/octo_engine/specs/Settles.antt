-- What a run comes to.
use Rattle.std.specs.Prelude.{ℕ}
use Rattle.hash_rows.specs.declared.options.Options.{Options}
use Rattle.push_history.specs.LagRun.{Terms}
use Rattle.push_history.specs.declared.run_lists.RunLists.{RunLists}
use Rattle.round_law.specs.Outcome.{IsOutcome}

-- after some number of rounds no worker is busy, and these are what the run comes to
pub record HasOutcome (t : Terms) (o : Options) (lists : RunLists) : Type 0 where
  pub rounds : ℕ
  pub outcome : IsOutcome t o rounds lists.refused.items lists.pushes.items lists.answers.items lists.live.items lists.missed
