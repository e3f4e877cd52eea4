use Rattle.std.proofs.Common.{◌≡◌, take, map, length}
use Rattle.std.specs.List.{range_with_len}
use Rattle.hash_rows.specs.Shapes.{cell_of}
use Rattle.hash_rows.specs.Sketches.{signed_in_row}
use Rattle.hash_rows.specs.Tables.{value_at}
use Rattle.count_sketch.proofs.kind.CountSketchKind.estimate.Given as goal

abbrev pub invariant-loop-row : goal.invariant-loop-row
invariant-loop-row l =
    (length l.values ≡ 8)
    × (take l.row l.values ≡ map (λ row. signed_in_row l.key row (value_at l.cells (cell_of l.shape l.key row))) (range_with_len 0 l.row))
