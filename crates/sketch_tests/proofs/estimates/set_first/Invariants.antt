use Rattle.std.proofs.Common.{◌≡◌}
use Rattle.sketch_tests.proofs.estimates.set_first.Given as goal

abbrev pub invariant-loop-cell : goal.invariant-loop-cell
invariant-loop-cell l = l.table.shape ≡ l.initial.table.shape
