use Rattle.std.proofs.Common.{◌≡◌, ◌≤◌, take, count_by, not, pos}
use Rattle.std.specs.Ordering.{int_eq}
use Rattle.hash_rows.proofs.table.nonzero.Given as goal

abbrev pub invariant-loop-cell : goal.invariant-loop-cell
invariant-loop-cell l = (l.count ≡ count_by (λ cell. not (int_eq cell (pos 0))) (take l.cell-index l.cells)) × (l.count ≤ l.cell-index)
