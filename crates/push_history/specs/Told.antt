-- What the messages of a worker tell of a cell.
use Rattle.std.specs.Prelude.{ℕ, ℤ, List, ◌==◌, map, filter, nat_lt}
use Rattle.hash_rows.specs.declared.shape.Push.{Push}
use Rattle.hash_rows.specs.Rules.{Rules}
use Rattle.hash_rows.specs.Sequential.{joined_of}

-- the amounts for the cell
abbrev pub amounts_for : ℕ → List Push → List ℤ
amounts_for cell messages = map (λ m. m.amount) (filter (λ m. m.cell == cell) messages)

-- the join of the amounts for the cell
unfoldable pub told_of : Rules → ℕ → List Push → ℤ
told_of r cell messages = joined_of r (amounts_for cell messages)

-- the messages whose update number is below n
abbrev pub messages_before : ℕ → List Push → List Push
messages_before n messages = filter (λ m. nat_lt m.update n) messages

-- the join of the amounts for the cell in these messages
unfoldable pub told : Rules → List Push → ℕ → ℕ → ℤ
told r messages n cell = told_of r cell (messages_before n messages)
