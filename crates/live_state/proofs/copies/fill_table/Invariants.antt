use Rattle.std.proofs.Common.{◌≡◌, length}
use Rattle.live_state.proofs.Copied.{AreCopied}
use Rattle.live_state.proofs.copies.fill_table.Given as goal

abbrev pub invariant-loop-cell : goal.invariant-loop-cell
invariant-loop-cell g l = (l.into.shape ≡ l.fn.into.shape) × (length l.into.cells ≡ length l.cells) × AreCopied l.cells l.into.cells l.cell
