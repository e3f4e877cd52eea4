-- Lawful pushes: which updates of a worker are told, and what is told.
use Rattle.std.specs.Prelude.{◌≡◌, ◌<◌, ◌≤◌, ℕ, ◌+◌, ◌==◌, ◌||◌, List, [], length, map, All, Bool, true, false}
use Rattle.std.specs.List.{list_any}
use Rattle.std.specs.List.Sorted.{IsStrictlyIncreasing}
use Rattle.hash_rows.specs.declared.options.Full.{Full}
use Rattle.hash_rows.specs.declared.options.Full.TheVariants.{Wait}
use Rattle.hash_rows.specs.declared.shape.Update.{Update}
use Rattle.hash_rows.specs.declared.shape.Push.{Push}
use Rattle.hash_rows.specs.Rules.{Rules}
use Rattle.push_history.specs.Updates.{update_at}
use Rattle.push_history.specs.Whole.{whole}
use Rattle.push_history.specs.Told.{told, messages_before}

-- whether there is a message of update k
abbrev pub is_sent : ℕ → List Push → Bool
is_sent k messages = list_any (λ m. m.update == k) messages

-- whether update k was refused
abbrev pub is_refused : ℕ → List ℕ → Bool
is_refused k refused = list_any (λ j. j == k) refused

-- how far the cell of update k is from what was told of it before, once the update is counted
unfoldable pub distance_at : Rules → List Update → List Push → ℕ → ℕ
distance_at r updates messages k =
    let cell = (update_at updates k).cell in
    r.distance (told r messages k cell) (whole r updates (k + 1) cell)

-- the message is of an update and of its cell, and its amount is what was not told before
pub record TellsAll (r : Rules) (updates : List Update) (messages : List Push) (m : Push) : Type 0 where
  pub within : m.update < length updates
  pub cell : m.cell ≡ (update_at updates m.update).cell
  pub amount : m.amount ≡ r.gap (told r messages m.update m.cell) (whole r updates (m.update + 1) m.cell)

-- an update is told or refused exactly where its distance reaches the threshold; this speaks of update numbers, cells
-- and amounts alone
pub record ArePushes (r : Rules) (threshold : ℕ) (updates : List Update) (messages : List Push) (refused : List ℕ) : Type 0 where
  pub rising : IsStrictlyIncreasing (map (λ m. m.update) messages)
  pub amounts : All (TellsAll r updates messages) messages
  pub refused_rising : IsStrictlyIncreasing refused
  pub refused_within : All (λ k. k < length updates) refused
  pub reached : (k : ℕ) → k < length updates → (is_sent k messages || is_refused k refused) ≡ true
      → threshold ≤ distance_at r updates messages k
  pub below : (k : ℕ) → k < length updates → (is_sent k messages || is_refused k refused) ≡ false
      → distance_at r updates messages k < threshold
  pub apart : (k : ℕ) → is_sent k messages ≡ true → is_refused k refused ≡ false

-- the message has the worker, and the packet and the key of its update
pub record IsNamed (worker : ℕ) (updates : List Update) (m : Push) : Type 0 where
  pub its_worker : m.worker ≡ worker
  pub packet : m.packet ≡ (update_at updates m.update).packet
  pub key : m.key ≡ (update_at updates m.update).key

-- the messages and the refused updates are lawful for these updates of the worker
pub record LawfulPushes (r : Rules) (worker threshold capacity : ℕ) (full : Full) (updates : List Update) (messages : List Push)
    (refused : List ℕ) : Type 0 where
  pub pushes : ArePushes r threshold updates messages refused
  pub named : All (IsNamed worker updates) messages
  pub full_lane : (k : ℕ) → is_refused k refused ≡ true → capacity ≤ length (messages_before k messages)
  pub waiting : full ≡ Wait → refused ≡ []
