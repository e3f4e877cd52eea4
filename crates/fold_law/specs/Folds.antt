-- A fold of the messages of all workers.
use Rattle.std.specs.Prelude.{◌≡◌, ◌<◌, ℕ, List, All, length}
use Rattle.hash_rows.specs.declared.shape.Push.{Push}
use Rattle.push_history.specs.Front.{messages_of}
use Rattle.push_history.specs.LawfulJournal.{sent_by}

-- the list has the messages of each worker, in order, and no others
pub record IsFoldOf (messages : List (List Push)) (folded : List Push) : Type 0 where
  pub of_workers : All (λ m. m.worker < length messages) folded
  pub in_order : (w : ℕ) → w < length messages → messages_of w folded ≡ sent_by messages w
