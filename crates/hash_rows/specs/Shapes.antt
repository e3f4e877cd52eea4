-- Shapes, and the cell of a key in a row.
use Rattle.std.specs.Prelude.{ℕ, ◌≤◌, ◌+◌, ◌*◌, ◌%◌}
use Rattle.packet_key.specs.declared.key.FlowKey.{FlowKey}
use Rattle.hash_rows.specs.declared.shape.Shape.{Shape}
use Rattle.hash_rows.specs.Hash.{row_hash_of}

-- 1 to 8 rows of 1 to 65,536 columns
pub record IsShape (shape : Shape) : Type 0 where
  pub some_rows : 1 ≤ shape.rows
  pub rows : shape.rows ≤ 8
  pub some_columns : 1 ≤ shape.columns
  pub columns : shape.columns ≤ 65536

-- the number of cells
abbrev pub size_of : Shape → ℕ
size_of shape = shape.rows * shape.columns

-- the cell of a key in a row
unfoldable pub cell_of : Shape → FlowKey → ℕ → ℕ
cell_of shape key row = row * shape.columns + row_hash_of key row % shape.columns
