use Rattle.std.proofs.Common.{◌≡◌, ◌<◌, length, None}
use Rattle.sketch_tests.proofs.private_cells.check_steps.Given as goal

abbrev pub invariant-loop-step : goal.invariant-loop-step
invariant-loop-step g l = (l.sketch.due ≡ None) × (0 < length l.sketch.held)
