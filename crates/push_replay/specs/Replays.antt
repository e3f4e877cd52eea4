-- What a worker's updates, counted again, stand for.
use Rattle.std.specs.Prelude.{◌≡◌, ◌<◌, ◌≤◌, ℕ, ℤ, List, Option, None, Some, true, length}
use Rattle.hash_rows.specs.declared.shape.Update.{Update}
use Rattle.hash_rows.specs.Rules.{Rules}
use Rattle.push_rule.specs.Stands.{StandsFor}
use Rattle.given_law.specs.Given.{given_messages, given_before}
use Rattle.push_history.specs.Pushes.{distance_at, is_refused}
use Rattle.push_replay.specs.declared.replay.Fault.{Fault}
use Rattle.push_replay.specs.declared.replay.Fault.TheVariants.{TooNear, TooFew}
use Rattle.push_replay.specs.declared.replay.Replay.{Replay}

-- the fault that was found first
abbrev pub first_fault : Option Fault → Option Fault → Option Fault
first_fault None found = found
first_fault (Some fault) found = Some fault

-- how far the cell of update k is from what was told before it
abbrev pub distance_given : Rules → ℕ → ℕ → List Update → List ℕ → ℕ → ℕ
distance_given r w T updates refused k = distance_at r updates (given_before r w T updates refused k) k

-- each refused update below n is due, with a lane's messages before it
abbrev pub AreFine : Rules → ℕ → ℕ → ℕ → List Update → List ℕ → ℕ → Type 0
AreFine r w T L updates refused n = (k : ℕ) → k < n → is_refused k refused ≡ true
    → (T ≤ distance_given r w T updates refused k) × (L ≤ length (given_before r w T updates refused k))

-- this is wrong with the first refused update that isn't, if one isn't
abbrev pub IsFirstFault : Rules → ℕ → ℕ → ℕ → List Update → List ℕ → Option Fault → Type 0
IsFirstFault r w T L updates refused None = AreFine r w T L updates refused (length updates)
IsFirstFault r w T L updates refused (Some (TooNear k d)) =
    (k < length updates) × (is_refused k refused ≡ true) × AreFine r w T L updates refused k
    × (d ≡ distance_given r w T updates refused k) × (d < T)
IsFirstFault r w T L updates refused (Some (TooFew k n)) =
    (k < length updates) × (is_refused k refused ≡ true) × AreFine r w T L updates refused k
    × (T ≤ distance_given r w T updates refused k) × (n ≡ length (given_before r w T updates refused k)) × (n < L)

module _ {K Held : Type 0} where
  -- the messages are those that the refused updates determine, and the sketch has counted all updates
  pub record Replays (stands : Held → ℤ → ℤ → Type 0) (r : Rules) (w T : ℕ) (refused : List ℕ) (updates : List Update)
      (p : Replay K Held) : Type 0 where
    pub messages : p.messages.items ≡ given_messages r w T updates refused
    pub kept : List ℕ
    pub sketch : StandsFor stands r p.sketch updates p.messages.items kept
    pub idle : p.sketch.due ≡ None
    pub threshold : p.sketch.threshold ≡ T
    pub worker : p.worker ≡ w

  -- how far it has come is all that changed, and what it holds and found; no push is due
  pub record KeepsSize (old new : Replay K Held) : Type 0 where
    pub room : new.sketch.room ≡ old.sketch.room
    pub cells : length new.sketch.held ≡ length old.sketch.held
    pub lane : new.lane ≡ old.lane
    pub idle : new.sketch.due ≡ None

  -- and its fault is the first that there is
  pub record Tells (stands : Held → ℤ → ℤ → Type 0) (r : Rules) (w T : ℕ) (refused : List ℕ) (updates : List Update)
      (p : Replay K Held) : Type 0 where
    pub replays : Replays stands r w T refused updates p
    pub first : IsFirstFault r w T p.lane updates refused p.fault
