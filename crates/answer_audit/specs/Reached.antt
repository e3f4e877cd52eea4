-- A table of the first messages of each worker.
use Rattle.std.specs.Prelude.{◌≡◌, ◌<◌, ◌≤◌, ℕ, List, All, length, take, true, slice_index_or}
use Rattle.hash_rows.specs.declared.shape.Push.{Push}
use Rattle.hash_rows.specs.Rules.{Rules}
use Rattle.hash_rows.specs.Tables.{TableView}
use Rattle.push_history.specs.Front.{messages_of}
use Rattle.push_history.specs.LawfulJournal.{sent_by}
pub use Rattle.told_table.specs.Tables.{AreSent, IsMessageFor}
use Rattle.told_table.specs.Tables.{IsTableOf}

-- at most so many as the worker sent
abbrev pub IsWithinSent : List (List Push) → List ℕ → Type 0
IsWithinSent messages front = (w : ℕ) → w < length messages → slice_index_or front w 0 ≤ length (sent_by messages w)

-- the table is that of some messages that are, of each worker, as many of its first ones as the front says
pub record HasReached (r : Rules) (messages : List (List Push)) (front : List ℕ) (table : TableView) : Type 0 where
  pub folded : List Push
  pub of_workers : All (λ m. m.worker < length messages) folded
  pub values : All (λ m. r.is_value m.amount ≡ true) folded
  pub firsts : (w : ℕ) → w < length messages → messages_of w folded ≡ take (slice_index_or front w 0) (sent_by messages w)
  pub told : IsTableOf r table folded
