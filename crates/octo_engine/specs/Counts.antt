-- What a worker that counts its next updates comes to.
use Rattle.std.specs.Prelude.{◌≡◌, ◌<◌, ◌≤◌, ℕ, ℤ, ◌+◌, ◌-◌, ◌*◌, List, All, Bool, false, if◌then◌else◌, length}
use Rattle.hash_rows.specs.Limits.{most_records}
use Rattle.hash_rows.specs.declared.options.Options.{Options}
use Rattle.hash_rows.specs.declared.shape.Packet.{Packet}
use Rattle.hash_rows.specs.declared.shape.Shape.{Shape}
use Rattle.hash_rows.specs.Rules.{Rules}
use Rattle.hash_rows.specs.Shapes.{size_of}
use Rattle.push_history.specs.LagRun.{Terms, Worker, updates_by}
use Rattle.push_history.specs.OwnSteps.{counts}
use Rattle.push_history.specs.Updates.{update_at, update_in_row, updates_of}
use Rattle.push_rule.specs.Counters.{CounterView, KeepsSettings, Extends}
use Rattle.push_rule.specs.Keeps.{Keeps}

-- the updates of worker w are those of these packets
pub record HasShare (r : Rules) (t : Terms) (shape : Shape) (packets : List Packet) (w : ℕ) (share : List ℕ) : Type 0 where
  pub rules : t.rules ≡ r
  pub updates : updates_by t w ≡ updates_of r shape packets share

-- the worker's next updates are what the packet adds in these rows
pub record AreNext (t : Terms) (w : ℕ) (x : Worker) (shape : Shape) (packet : Packet) (position first last : ℕ) : Type 0 where
  pub within : x.counted + (last - first) ≤ length (updates_by t w)
  pub rows : (k : ℕ) → k < last - first
      → update_at (updates_by t w) (x.counted + k) ≡ update_in_row t.rules shape position packet (first + k)

module _ {Held : Type 0} where
  -- the worker counted so many updates, or fewer where one of them waits
  pub record HasMoved (old new : CounterView Held) (n : ℕ) (waits : Bool) : Type 0 where
    pub same : KeepsSettings old new
    pub grows : Extends old.queue new.queue
    pub queue : length old.queue ≤ old.taken + old.lane → length new.queue ≤ new.taken + new.lane
    pub behind : old.sketch.counted ≤ new.sketch.counted
    pub most : new.sketch.counted ≤ old.sketch.counted + n
    pub all : waits ≡ false → new.sketch.counted ≡ old.sketch.counted + n

  -- worker x has counted n updates and is here; where one waits, it ends for however many more
  pub record HasCounted (stands : Held → ℤ → ℤ → Type 0) (t : Terms) (w : ℕ) (x : Worker) (n : ℕ) (waits : Bool)
      (d : CounterView Held) : Type 0 where
    pub now : Worker
    pub keeps : Keeps stands t w d now
    pub counted : waits ≡ false → now.counted ≡ x.counted + n
    pub rest : (more : ℕ) → counts t w (n + more) x ≡ (if waits then now else counts t w more now)

  -- the counter is for the packets of the share, and has room
  pub record IsFit (o : Options) (packets : ℕ) (share : List ℕ) (d : CounterView Held) : Type 0 where
    pub within : All (λ i. i < packets) share
    pub few : length share ≤ most_records
    pub updates : d.sketch.room ≡ o.shape.rows * length share
    pub counted : d.sketch.counted ≤ d.sketch.room
    pub cells : length d.sketch.held ≡ size_of o.shape
    pub lane : d.lane ≡ o.lane
    pub queue : length d.queue ≤ d.taken + d.lane
    pub taken : d.taken ≤ length d.queue
