-- What the updates of a worker make of a cell.
use Rattle.std.specs.Prelude.{ℕ, ℤ, List, ◌==◌, map, filter, take}
use Rattle.hash_rows.specs.declared.shape.Update.{Update}
use Rattle.hash_rows.specs.Rules.{Rules}
use Rattle.hash_rows.specs.Sequential.{joined_of}

-- the values for the cell
abbrev pub values_for : ℕ → List Update → List ℤ
values_for cell updates = map (λ u. u.value) (filter (λ u. u.cell == cell) updates)

-- the join of the values for the cell
unfoldable pub whole_of : Rules → ℕ → List Update → ℤ
whole_of r cell updates = joined_of r (values_for cell updates)

-- the join of the values for the cell among the first n updates
unfoldable pub whole : Rules → List Update → ℕ → ℕ → ℤ
whole r updates n cell = whole_of r cell (take n updates)
