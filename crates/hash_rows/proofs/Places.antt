-- The cells of a key.
use Rattle.std.proofs.Common.{◌≡◌, ◌<◌, ◌≤◌, ◌+◌, ◌*◌, ◌/◌, ◌%◌, ℕ, arith}
use Rattle.std.proofs.Math.Nat.{mul-le-mul_right}
use Rattle.std.proofs.lemmas.Nat.{div-mul-add}
use Rattle.packet_key.specs.declared.key.FlowKey.{FlowKey}
use Rattle.hash_rows.specs.declared.shape.Shape.{Shape}
use Rattle.hash_rows.specs.Hash.{row_hash_of}
use Rattle.hash_rows.specs.Shapes.{IsShape, cell_of, size_of}

-- the cell is in the table
pub place_within : (shape : Shape) → IsShape shape → (key : FlowKey) (row : ℕ) → row < shape.rows → cell_of shape key row < size_of shape
unfolding cell_of
place_within shape lawful key row within =
    let rows : (row + 1) * shape.columns ≤ shape.rows * shape.columns = mul-le-mul_right shape.columns (omega arith) in
    let column : row_hash_of key row % shape.columns < shape.columns = omega (arith, lawful.some_columns) in
    omega arith

-- a cell belongs to one row
pub row_of_place : (shape : Shape) → IsShape shape → (key : FlowKey) (row : ℕ) → cell_of shape key row / shape.columns ≡ row
unfolding cell_of
row_of_place shape lawful key row = div-mul-add row shape.columns (row_hash_of key row % shape.columns) (omega (arith, lawful.some_columns))
