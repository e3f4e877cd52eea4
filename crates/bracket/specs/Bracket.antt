-- What an answer would be, had every counted update been told.
use Rattle.std.specs.Prelude.{◌≡◌, ◌<◌, ◌≤◌, ◌≤ℤ◌, ◌+ℤ◌, ◌-◌, ◌*◌, ◌^◌, ◌==◌, ℕ, ℤ, pos, List, [], All, map, length, slice_index_or, sum_by, unsigned_abs, if◌then◌else◌, false}
use Rattle.std.specs.List.{range_with_len}
use Rattle.packet_key.specs.declared.key.FlowKey.{FlowKey}
use Rattle.hash_rows.specs.declared.options.Sketch.TheVariants.{CountMin}
use Rattle.hash_rows.specs.declared.shape.Push.{Push}
use Rattle.hash_rows.specs.declared.shape.Shape.{Shape}
use Rattle.hash_rows.specs.declared.shape.Update.{Update}
use Rattle.hash_rows.specs.Rules.{Rules, rules_of}
use Rattle.hash_rows.specs.Sequential.{joined_of}
use Rattle.hash_rows.specs.Shapes.{cell_of, size_of}
use Rattle.hash_rows.specs.Sketches.{count_min_estimate}
use Rattle.push_history.specs.Front.{IsFront, upto_of}
use Rattle.push_history.specs.LawfulJournal.{sent_by}
use Rattle.push_history.specs.Pushes.{ArePushes, is_refused}
use Rattle.push_history.specs.Updates.{IsLastOf}
use Rattle.push_history.specs.Whole.{whole}

-- the updates of worker w
abbrev pub updates_of_worker : List (List Update) → ℕ → List Update
updates_of_worker updates w = slice_index_or updates w []

-- how many of them match a front
abbrev pub matching : List (List Push) → List ℕ → ℕ → ℕ
matching messages front w = upto_of (sent_by messages w) (slice_index_or front w 0)

-- what the matching updates of a worker make of a cell
unfoldable pub matching_whole : Rules → List (List Update) → List (List Push) → List ℕ → ℕ → ℕ → ℤ
matching_whole r updates messages front cell w = whole r (updates_of_worker updates w) (matching messages front w) cell

-- the join of these over all workers
unfoldable pub true_of : Rules → List (List Update) → List (List Push) → List ℕ → ℕ → ℤ
true_of r updates messages front cell = joined_of r (map (matching_whole r updates messages front cell) (range_with_len 0 (length updates)))

-- the table of these joins
unfoldable pub true_cells : Rules → Shape → List (List Update) → List (List Push) → List ℕ → List ℤ
true_cells r shape updates messages front = map (true_of r updates messages front) (range_with_len 0 (size_of shape))

-- no worker's last matching update of the cell was refused
abbrev pub NoneRefused : List (List Update) → List (List Push) → List (List ℕ) → List ℕ → ℕ → Type 0
NoneRefused updates messages refused front cell =
    (w k : ℕ) → IsLastOf (updates_of_worker updates w) (matching messages front w) cell k
    → is_refused k (slice_index_or refused w []) ≡ false

-- what updates come to in a cell
abbrev pub amount_in : ℕ → List Update → ℕ
amount_in cell updates = sum_by (λ u. if u.cell == cell then unsigned_abs u.value else 0) updates

-- updates that aren't negative and together come to less than 2 ^ 63 in each cell
pub record AreAmounts (updates : List (List Update)) : Type 0 where
  pub values : (w : ℕ) → w < length updates → All (λ u. pos 0 ≤ℤ u.value) (updates_of_worker updates w)
  pub total : (cell : ℕ) → sum_by (amount_in cell) updates < 2 ^ 63

-- lawful messages of all workers over such updates, and a front of them
pub record AreCounted (threshold : ℕ) (updates : List (List Update)) (messages : List (List Push)) (refused : List (List ℕ))
    (front : List ℕ) : Type 0 where
  pub workers : length messages ≡ length updates
  pub is_front : IsFront messages front
  pub pushes : (w : ℕ) → w < length updates
      → ArePushes (rules_of CountMin) threshold (updates_of_worker updates w) (sent_by messages w) (slice_index_or refused w [])
  pub amounts : AreAmounts updates

-- an answer for a key is at most the true estimate; where no worker's last matching update of a cell of the key was
-- refused, it falls short by at most the number of workers times one less than the threshold
pub record IsNear (threshold : ℕ) (updates : List (List Update)) (messages : List (List Push)) (refused : List (List ℕ)) (front : List ℕ)
    (shape : Shape) (key : FlowKey) (answer : ℤ) : Type 0 where
  pub below : answer ≤ℤ count_min_estimate shape (true_cells (rules_of CountMin) shape updates messages front) key
  pub short : 1 ≤ threshold → ((row : ℕ) → row < shape.rows → NoneRefused updates messages refused front (cell_of shape key row))
      → count_min_estimate shape (true_cells (rules_of CountMin) shape updates messages front) key ≤ℤ
      (answer +ℤ pos (length updates * (threshold - 1)))
