use Rattle.std.proofs.Common.{◌≡◌, pos, map, fold}
use Rattle.std.specs.Int.{int_min}
use Rattle.std.specs.List.{range_with_len}
use Rattle.hash_rows.specs.Shapes.{cell_of}
use Rattle.hash_rows.specs.Tables.{value_at}
use Rattle.count_min.proofs.kind.CountMinKind.estimate.Given as goal

abbrev pub invariant-loop-row : goal.invariant-loop-row
invariant-loop-row l =
    l.least ≡ fold int_min (pos 9223372036854775807) (map (λ row. value_at l.cells (cell_of l.shape l.key row)) (range_with_len 0 l.row))
