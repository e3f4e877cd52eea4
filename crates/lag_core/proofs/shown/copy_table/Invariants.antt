use Rattle.std.proofs.Common.{◌≡◌, length}
use Rattle.lag_core.proofs.Copying.{AreFirst}
use Rattle.lag_core.proofs.shown.copy_table.Given as goal

abbrev pub invariant-loop-cell : goal.invariant-loop-cell
invariant-loop-cell g l = (l.into.shape ≡ l.from.shape) × (length l.into.cells ≡ length l.from.cells) × AreFirst l.from.cells l.into.cells l.cell
