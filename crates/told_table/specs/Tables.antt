-- A table of what some messages tell.
use Rattle.std.specs.Prelude.{◌≡◌, ◌<◌, ℕ, List, All, length, true, map}
use Rattle.std.specs.Global.{Vec}
use Rattle.std.specs.List.{flat_map}
use Rattle.hash_rows.specs.declared.shape.Push.{Push}
use Rattle.hash_rows.specs.declared.shape.Shape.{Shape}
use Rattle.hash_rows.specs.Rules.{Rules}
use Rattle.hash_rows.specs.Shapes.{size_of}
use Rattle.hash_rows.specs.Tables.{TableView}
use Rattle.push_history.specs.LawfulJournal.{sent_by}
use Rattle.push_history.specs.Shown.{told_cells}

-- the message is for a cell of the table, and tells a value of the kind
abbrev pub FitsIn : Rules → Shape → Push → Type 0
FitsIn r shape m = (m.cell < size_of shape) × (r.is_value m.amount ≡ true)

-- a message of worker w, for a cell of the table, that tells a value of the kind
abbrev pub IsMessageFor : Rules → Shape → ℕ → Push → Type 0
IsMessageFor r shape w m = (m.worker ≡ w) × (m.cell < size_of shape) × (r.is_value m.amount ≡ true)

-- so is each message of each worker
abbrev pub AreSent : Rules → Shape → List (List Push) → Type 0
AreSent r shape messages = (w : ℕ) → w < length messages → All (IsMessageFor r shape w) (sent_by messages w)

-- each cell is the join of the amounts for it
abbrev pub IsTableOf : Rules → TableView → List Push → Type 0
IsTableOf r table messages = table.cells ≡ told_cells r table.shape messages

-- the messages of each list
abbrev pub lists_of : List (Vec Push) → List (List Push)
lists_of lists = map (λ list. list.items) lists

-- those of all lists
abbrev pub all_messages : List (Vec Push) → List Push
all_messages lists = flat_map (λ list. list.items) lists
