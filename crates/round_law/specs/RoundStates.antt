-- What rounds make of a state.
use Rattle.std.specs.Prelude.{ℕ}
use Rattle.hash_rows.specs.declared.options.Options.{Options}
use Rattle.push_history.specs.LagRun.{Terms, State, lag_run}
use Rattle.push_history.specs.Rounds.{events_of_rounds}

-- the state after so many rounds
unfoldable pub round_state : Terms → Options → ℕ → State
round_state t o n = lag_run t o.readers (events_of_rounds t o n)
