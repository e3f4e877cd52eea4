-- What the state after some messages says of them.
use Rattle.std.specs.Prelude.{◌≡◌, List, length}
use Rattle.hash_rows.specs.declared.shape.Push.{Push}
use Rattle.hash_rows.specs.Rules.{Rules}
use Rattle.push_history.specs.Front.{front_of, uptos_of}
use Rattle.push_history.specs.LiveHeavy.{live_keys, missed_keys}
use Rattle.push_history.specs.Shown.{told_cells}
use Rattle.live_state.specs.declared.layout.Layout.{Layout}
use Rattle.live_state.specs.Fold.{StateView}

-- each cell is the join of the amounts for it; of each worker it is known how many messages there are, and one more
-- than the last one's update; and the heavy keys are the live ones
pub record Shows (r : Rules) (l : Layout) (messages : List Push) (s : StateView) : Type 0 where
  pub shape : s.table.shape ≡ l.shape
  pub cells : s.table.cells ≡ told_cells r l.shape messages
  pub front : s.front ≡ front_of l.workers messages
  pub upto : s.upto ≡ uptos_of l.workers messages
  pub folded : s.folded ≡ length messages
  pub keys : s.heavy.keys ≡ live_keys r l.shape l.heavy l.least messages
  pub missed : s.heavy.missed ≡ missed_keys r l.shape l.heavy l.least messages
