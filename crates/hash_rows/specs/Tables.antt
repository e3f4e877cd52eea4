-- A table as a list of cells.
use Rattle.std.specs.Prelude.{ℕ, ◌+◌, ◌*◌, ℤ, pos, List, slice_range, slice_index_or, slice_set, count_by, not, refl}
use Rattle.std.specs.Ordering.{int_eq}
use Rattle.std.specs.Coded.{Coded, code_by, coded×, coded_ℕ, coded_ℤ, coded_list}
use Rattle.hash_rows.specs.declared.shape.Shape.{Shape}

-- a shape, and the value of each cell
pub record TableView : Type 0 where
  pub shape : Shape
  pub cells : List ℤ

-- how it is stored
abbrev pub table_code : Coded TableView
table_code = code_by (ℕ × (ℕ × List ℤ)) (coded× coded_ℕ (coded× coded_ℕ (coded_list coded_ℤ)))
    (λ t. (t.shape.rows, (t.shape.columns, t.cells)))
    (λ p. record { shape = record { rows = p.0; columns = p.1.0 }; cells = p.1.1 }) (λ _. refl)

-- the value of a cell
abbrev pub value_at : List ℤ → ℕ → ℤ
value_at cells cell = slice_index_or cells cell (pos 0)

-- the cells of a row
abbrev pub row_of : TableView → ℕ → List ℤ
row_of table row = slice_range table.cells (row * table.shape.columns) (row * table.shape.columns + table.shape.columns)

-- how many cells of the row aren't 0
abbrev pub used_in : TableView → ℕ → ℕ
used_in table row = count_by (λ cell. not (int_eq cell (pos 0))) (row_of table row)

-- the cells with the amount joined into one
abbrev pub joined_at : (ℤ → ℤ → ℤ) → List ℤ → ℕ → ℤ → List ℤ
joined_at join cells cell amount = slice_set cells cell (join (value_at cells cell) amount)

-- the table with the amount joined into the cell
abbrev pub put_in : (ℤ → ℤ → ℤ) → TableView → ℕ → ℤ → TableView
put_in join table cell amount = record { shape = table.shape; cells = joined_at join table.cells cell amount }
