-- What a worker has told.
use Rattle.std.specs.Prelude.{◌≡◌, ◌≤◌, ℕ, ℤ, List, length, map}
use Rattle.std.specs.List.{range_with_len}
use Rattle.hash_rows.specs.declared.options.Full.{Full}
use Rattle.hash_rows.specs.declared.options.Full.TheVariants.{Leave}
use Rattle.hash_rows.specs.declared.shape.Packet.{Packet}
use Rattle.hash_rows.specs.declared.shape.Shape.{Shape}
use Rattle.hash_rows.specs.declared.shape.Update.{Update}
use Rattle.hash_rows.specs.Rules.{Rules}
use Rattle.push_history.specs.Pushes.{LawfulPushes}
use Rattle.push_history.specs.Updates.{update_in_row}
use Rattle.push_lane.specs.Views.{InView}
use Rattle.push_rule.specs.Stands.{PrivateView, StandsFor}

-- counting leaves the threshold, the room and the number of cells as they are
pub record KeepsSketch {Held : Type 0} (old new : PrivateView Held) : Type 0 where
  pub threshold : new.threshold ≡ old.threshold
  pub room : new.room ≡ old.room
  pub cells : length new.held ≡ length old.held

-- the sketch has counted these updates. What was sent through the pass, and what was refused, is lawful for them; and
-- where pushes don't wait, the lane was full as often as an update was refused
pub record HasTold {Held : Type 0} (stands : Held → ℤ → ℤ
    → Type 0) (r : Rules) (worker capacity : ℕ) (full : Full) (sketch : PrivateView Held) (pass : InView)
    (updates : List Update) : Type 0 where
  pub refused : List ℕ
  pub sketch_is : StandsFor stands r sketch updates pass.sent refused
  pub lawful : LawfulPushes r worker sketch.threshold capacity full updates pass.sent refused
  pub fulls : full ≡ Leave → pass.fulls ≡ length refused
  pub few : length refused ≤ length updates

-- what a packet adds in its first rows
abbrev pub updates_of_packet : Rules → Shape → ℕ → Packet → ℕ → List Update
updates_of_packet r shape position packet rows = map (update_in_row r shape position packet) (range_with_len 0 rows)
