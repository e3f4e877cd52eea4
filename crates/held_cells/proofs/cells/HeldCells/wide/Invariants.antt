use Rattle.std.proofs.Common.{◌≡◌, ◌≤◌, take, count_by, is_none}
use Rattle.held_cells.proofs.cells.HeldCells.wide.Given as goal

abbrev pub invariant-loop-cell : goal.invariant-loop-cell
invariant-loop-cell g l = (l.wide ≡ count_by (λ h. is_none (g.K.Kind.small_of h)) (take l.cell l.self.held)) × (l.wide ≤ l.cell)
