-- What was counted of a cell and not told.
use Rattle.std.specs.Prelude.{ℕ, ℤ, List}
use Rattle.hash_rows.specs.declared.shape.Update.{Update}
use Rattle.hash_rows.specs.declared.shape.Push.{Push}
use Rattle.hash_rows.specs.Rules.{Rules}
use Rattle.push_history.specs.Whole.{whole}
use Rattle.push_history.specs.Told.{told}

-- what joins the told value to the whole one, after the first n updates
unfoldable pub residue : Rules → List Update → List Push → ℕ → ℕ → ℤ
residue r updates messages n cell = r.gap (told r messages n cell) (whole r updates n cell)

-- its size, which the threshold bounds
unfoldable pub residue_size : Rules → List Update → List Push → ℕ → ℕ → ℕ
residue_size r updates messages n cell = r.distance (told r messages n cell) (whole r updates n cell)
