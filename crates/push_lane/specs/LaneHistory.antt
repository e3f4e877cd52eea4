-- A state of a lane that has room for so many messages: what was sent, what was taken and what it holds.
use Rattle.std.specs.Prelude.{◌≡◌, ◌≤◌, ℕ, List, ◌++◌, length}
use Rattle.hash_rows.specs.declared.shape.Push.{Push}

-- what was sent is what was taken and then what is held, which is never more than the lane has room for
pub record LaneHistory (capacity : ℕ) (sent taken held : List Push) : Type 0 where
  pub order : sent ≡ taken ++ held
  pub room : length held ≤ capacity
