-- What the messages up to a front tell of a cell.
use Rattle.std.specs.Prelude.{ℕ, ℤ, List, take, map}
use Rattle.std.specs.List.{flat_map, zip, range_with_len}
use Rattle.hash_rows.specs.declared.shape.Shape.{Shape}
use Rattle.hash_rows.specs.declared.shape.Push.{Push}
use Rattle.hash_rows.specs.Rules.{Rules}
use Rattle.hash_rows.specs.Shapes.{size_of}
use Rattle.push_history.specs.Told.{told_of}

-- the first messages of each worker, as many as the front says
abbrev pub first_messages : List (List Push) → List ℕ → List Push
first_messages messages front = flat_map (λ p. take p.1 p.0) (zip messages front)

-- the join, over all workers, of the amounts for the cell in these
unfoldable pub shown_of : Rules → List (List Push) → List ℕ → ℕ → ℤ
shown_of r messages front cell = told_of r cell (first_messages messages front)

-- the table of these joins
unfoldable pub shown_cells : Rules → Shape → List (List Push) → List ℕ → List ℤ
shown_cells r shape messages front = map (shown_of r messages front) (range_with_len 0 (size_of shape))

-- the table that some messages make
unfoldable pub told_cells : Rules → Shape → List Push → List ℤ
told_cells r shape messages = map (λ cell. told_of r cell messages) (range_with_len 0 (size_of shape))
