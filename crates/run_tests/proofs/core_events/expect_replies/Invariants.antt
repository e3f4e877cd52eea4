use Rattle.std.proofs.Common.{◌≡◌, length}
use Rattle.run_tests.proofs.core_events.expect_replies.Given as goal

abbrev pub invariant-loop-step : goal.invariant-loop-step
invariant-loop-step g l = (l.lag.limits ≡ l.fn.lag.limits) × (length l.lag.seen ≡ length l.fn.lag.seen) × (l.lag.shape ≡ l.fn.lag.shape)
