-- What contracts see of a worker.
use Rattle.std.specs.Prelude.{◌≡◌, ℕ, List, ◌-◌, ◌++◌, length}
use Rattle.hash_rows.specs.declared.options.Full.{Full}
use Rattle.hash_rows.specs.declared.shape.Push.{Push}
use Rattle.push_rule.specs.Stands.{PrivateView}

-- its number; how many messages its lane holds, and what becomes of a push that meets a full lane; its sketch; its
-- messages since the queue was cleared, for how many there is room, and how many of them were folded
pub record CounterView (Held : Type 0) : Type 0 where
  pub worker : ℕ
  pub lane : ℕ
  pub full : Full
  pub sketch : PrivateView Held
  pub queue : List Push
  pub room : ℕ
  pub taken : ℕ

-- the messages in its lane
abbrev pub in_lane : {Held : Type 0} → CounterView Held → ℕ
in_lane d = length d.queue - d.taken

-- what counting leaves as it is
pub record KeepsSettings {Held : Type 0} (old new : CounterView Held) : Type 0 where
  pub worker : new.worker ≡ old.worker
  pub lane : new.lane ≡ old.lane
  pub full : new.full ≡ old.full
  pub room : new.room ≡ old.room
  pub taken : new.taken ≡ old.taken
  pub threshold : new.sketch.threshold ≡ old.sketch.threshold
  pub updates : new.sketch.room ≡ old.sketch.room
  pub cells : length new.sketch.held ≡ length old.sketch.held

-- the list has grown at its end
pub record Extends {A : Type 0} (old new : List A) : Type 0 where
  pub more : List A
  pub parts : new ≡ old ++ more
