-- The sequential sketch: what one table holds that takes every packet.
use Rattle.std.specs.Prelude.{ℕ, ℤ, pos, List, ◌==◌, map, fold, filter}
use Rattle.std.specs.List.{flat_map, range_with_len}
use Rattle.hash_rows.specs.declared.shape.Shape.{Shape}
use Rattle.hash_rows.specs.declared.shape.Packet.{Packet}
use Rattle.hash_rows.specs.Rules.{Rules}
use Rattle.hash_rows.specs.Shapes.{cell_of, size_of}
use Rattle.hash_rows.specs.Sketches.{rows_of}
use Rattle.hash_rows.specs.Tables.{TableView}

-- the join of some values
abbrev pub joined_of : Rules → List ℤ → ℤ
joined_of r values = fold r.join (pos 0) values

-- the values of a packet in the rows in which its hash names the cell
unfoldable pub packet_values : Rules → Shape → ℕ → Packet → List ℤ
packet_values r shape cell packet = map (λ row. r.value shape packet row)
    (filter (λ row. cell_of shape packet.key row == cell) (rows_of shape))

-- the values of all packets and rows whose hash names the cell
unfoldable pub cell_values : Rules → Shape → List Packet → ℕ → List ℤ
cell_values r shape packets cell = flat_map (packet_values r shape cell) packets

-- the join of these values
unfoldable pub sequential : Rules → Shape → List Packet → ℕ → ℤ
sequential r shape packets cell = joined_of r (cell_values r shape packets cell)

-- the whole table
unfoldable pub sequential_table : Rules → Shape → List Packet → TableView
sequential_table r shape packets = record {
  shape = shape;
  cells = map (sequential r shape packets) (range_with_len 0 (size_of shape));
}
