-- A worker that runs, and the state of a run that it stands for.
use Rattle.std.specs.Prelude.{◌≡◌, ◌<◌, ◌≤◌, ℕ, ℤ, ◌+◌, List, All, length, min}
use Rattle.hash_rows.specs.declared.options.Full.{Full}
use Rattle.hash_rows.specs.declared.shape.Update.{Update}
use Rattle.hash_rows.specs.Rules.{Rules}
use Rattle.push_history.specs.LagRun.{Terms, Worker, fresh_worker, updates_by}
use Rattle.push_history.specs.Updates.{HoldValues}
use Rattle.push_rule.specs.Counters.{CounterView}
use Rattle.push_rule.specs.Keeps.{Keeps}

-- what a run is of, besides the kind of sketch
pub record Limits : Type 0 where
  pub threshold : ℕ
  pub capacity : ℕ
  pub full : Full
  pub updates : List (List Update)

-- with it
abbrev pub terms_within : Rules → Limits → Terms
terms_within r l = record { rules = r; threshold = l.threshold; capacity = l.capacity; full = l.full; updates = l.updates }

-- for how many messages the queue has room: one more than a full lane holds, or as many as there are updates
abbrev pub queue_room : ℕ → ℕ → ℕ
queue_room lane updates = min (lane + 1) updates

module _ {Held : Type 0} where
  -- the worker has room for so many updates and for the messages of a full lane, and its queue holds none besides
  pub record IsReadyToCount (updates : ℕ) (d : CounterView Held) : Type 0 where
    pub updates_room : d.sketch.room ≡ updates
    pub room : d.room ≡ queue_room d.lane updates
    pub cleared : d.taken ≡ 0
    pub short : length d.queue ≤ d.lane

  -- it can take up these updates: it is ready for them, its queue holds no more messages than it counted updates, and each
  -- update is of one of its cells and has a value of the kind
  pub record CanTakeUp (r : Rules) (updates : List Update) (d : CounterView Held) : Type 0 where
    pub ready : IsReadyToCount (length updates) d
    pub few : length d.queue ≤ d.sketch.counted
    pub cells : All (λ u. u.cell < length d.sketch.held) updates
    pub values : HoldValues r updates

  -- it is worker w of a run, in this state
  pub record IsWorkerAt (stands : Held → ℤ → ℤ → Type 0) (t : Terms) (w : ℕ) (d : CounterView Held) (x : Worker) : Type 0 where
    pub keeps : Keeps stands t w d x
    pub ready : IsReadyToCount (length (updates_by t w)) d

  -- it is worker w before anything happened, with so many cells
  pub record IsFreshWorker (stands : Held → ℤ → ℤ → Type 0) (t : Terms) (cells w : ℕ) (d : CounterView Held) : Type 0 where
    pub fresh : IsWorkerAt stands t w d fresh_worker
    pub its_cells : length d.sketch.held ≡ cells
