use Rattle.std.proofs.Common.{◌≡◌, length, take}
use Rattle.octo_engine.proofs.looks.copy_cells.Given as goal

abbrev pub invariant-loop-cell : goal.invariant-loop-cell
invariant-loop-cell l = (l.copy.items ≡ take l.cell-index l.cells.items) × (l.copy.room ≡ length l.cells.items)
