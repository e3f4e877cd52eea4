-- What workers counted and did not tell, joined into a table.
use Rattle.std.specs.Prelude.{◌≡◌, ◌<◌, ℕ, ℤ, List, length, map, fold}
use Rattle.std.specs.List.{range_with_len}
use Rattle.hash_rows.specs.declared.shape.Push.{Push}
use Rattle.hash_rows.specs.declared.shape.Shape.{Shape}
use Rattle.hash_rows.specs.declared.shape.Update.{Update}
use Rattle.hash_rows.specs.Rules.{Rules}
use Rattle.hash_rows.specs.Shapes.{size_of}
use Rattle.hash_rows.specs.Tables.{value_at}
use Rattle.push_history.specs.Residue.{residue}
use Rattle.push_rule.specs.Stands.{PrivateView, StandsFor}

-- what a worker counted, what it sent and what was refused
pub record Counted : Type 0 where
  pub updates : List Update
  pub messages : List Push
  pub refused : List ℕ

-- what the worker counted of a cell and did not tell
abbrev pub residue_of : Rules → Counted → ℕ → ℤ
residue_of r c cell = residue r c.updates c.messages (length c.updates) cell

-- the residues of the first n workers, by worker and cell, are joined into each cell
abbrev pub HasJoined : (ℤ → ℤ → ℤ) → (ℕ → ℕ → ℤ) → ℕ → ℕ → List ℤ → List ℤ → Type 0
HasJoined join left n size old new = (cell : ℕ) → cell < size
    → value_at new cell ≡ fold join (value_at old cell) (map (λ w. left w cell) (range_with_len 0 n))

-- the sketch is that of a worker, for a table of this shape
pub record IsWorkerFor {H : Type 0} (stands : H → ℤ → ℤ → Type 0) (r : Rules) (shape : Shape) (s : PrivateView H) : Type 0 where
  pub counted : Counted
  pub stands_for : StandsFor stands r s counted.updates counted.messages counted.refused
  pub cells : length s.held ≡ size_of shape
