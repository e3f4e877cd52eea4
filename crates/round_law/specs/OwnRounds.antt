-- What each worker does in the rounds of a run, by itself.
use Rattle.std.specs.Prelude.{ℕ, zero, suc, List}
use Rattle.hash_rows.specs.declared.options.Options.{Options}
use Rattle.hash_rows.specs.declared.shape.Push.{Push}
use Rattle.push_history.specs.LagRun.{Terms, Worker}
use Rattle.push_history.specs.OwnSteps.{own_round}
use Rattle.round_law.specs.RoundStates.{round_state}

-- the worker after so many rounds
abbrev pub own_rounds : Terms → Options → ℕ → ℕ → Worker → Worker
own_rounds t o w zero x = x
own_rounds t o w (suc n) x = own_round t o w (own_rounds t o w n x)

-- all messages that were folded in so many rounds of a run
abbrev pub folded_after : Terms → Options → ℕ → List Push
folded_after t o n = (round_state t o n).folded
