-- What a running core stands for.
use Rattle.std.specs.Prelude.{◌≡◌, ◌<◌, ℕ, ℤ, ◌^◌, List, All, Some, length, take, true, slice_get, slice_index_or, map}
use Rattle.listed.specs.Listed.{Listed}
use Rattle.hash_rows.specs.declared.shape.Push.{Push}
use Rattle.hash_rows.specs.declared.shape.Shape.{Shape}
use Rattle.hash_rows.specs.Rules.{Rules}
use Rattle.hash_rows.specs.Shapes.{size_of}
use Rattle.push_history.specs.declared.event.Event.{Event}
use Rattle.push_history.specs.declared.event.Event.TheVariants.{Update, Take, Publish, Ask}
use Rattle.push_history.specs.declared.event.Reply.{Reply}
use Rattle.push_history.specs.Front.{front_of, uptos_of}
use Rattle.push_history.specs.LagRun.{State, lag_step, lag_run, updates_by, worker_in}
use Rattle.push_history.specs.LawfulRun.{IsLawfulState}
use Rattle.push_history.specs.LiveHeavy.{live_keys, missed_keys}
use Rattle.push_history.specs.Shown.{told_cells}
use Rattle.push_rule.specs.Counters.{CounterView}
use Rattle.live_state.specs.declared.layout.Layout.{Layout}
use Rattle.live_state.specs.Fold.{StateView, IsStateAfter, layout_of}
use Rattle.lag_core.specs.declared.shown.ShownState.{ShownState}
use Rattle.lag_core.specs.Workers.{IsWorkerAt, Limits, terms_within}

-- the shape of its tables, and what the run is of besides; its workers; the state that messages are folded into; what of
-- it is shown; of each reader the front that it has seen
pub record Core (K Held : Type 0) : Type 0 where
  pub shape : Shape
  pub limits : Limits
  pub workers : List (CounterView Held)
  pub fold : StateView
  pub shown : ShownState K Held
  pub seen : List (Listed ℕ)

-- what is shown of the state after these messages: its cells, its counts, and how many keys were heavy and how many missed
pub record IsShownOf {K Held : Type 0} (r : Rules) (l : Layout) (messages : List Push) (shown : ShownState K Held) : Type 0 where
  pub table : shown.table ≡ record { shape = l.shape; cells = told_cells r l.shape messages }
  pub front : shown.front.items ≡ front_of l.workers messages
  pub upto : shown.upto.items ≡ uptos_of l.workers messages
  pub live : shown.live ≡ length (live_keys r l.shape l.heavy l.least messages)
  pub missed : shown.missed ≡ missed_keys r l.shape l.heavy l.least messages

-- the messages that are shown
abbrev pub shown_messages : State → List Push
shown_messages s = take s.shown s.folded

-- the messages of each worker
abbrev pub sent_by_each : State → List (List Push)
sent_by_each s = map (λ x. x.sent) s.workers

-- the refused updates of each worker
abbrev pub refused_by_each : State → List (List ℕ)
refused_by_each s = map (λ x. x.refused) s.workers

-- the event names a worker or a reader that there is
abbrev pub NamesOneThere : ℕ → ℕ → Event → Type 0
NamesOneThere workers readers (Update w) = w < workers
NamesOneThere workers readers (Take w) = w < workers
NamesOneThere workers readers Publish = Unit {0}
NamesOneThere workers readers (Ask q) = q < readers

module _ {K Held : Type 0} where
  -- how many workers there are
  abbrev pub workers_of : Core K Held → ℕ
  workers_of v = length v.limits.updates

  -- the shape of the table that messages are folded into
  abbrev pub shape_of : Core K Held → Shape
  shape_of v = v.fold.table.shape

  -- the core is fit for its updates: there is a worker for each list of them, of so many cells, and each update is of
  -- one of these cells and has a value of the kind
  pub record IsFitForRun (r : Rules) (v : Core K Held) : Type 0 where
    pub workers : length v.workers ≡ workers_of v
    pub few : workers_of v < 2 ^ 32
    pub few_updates : (w : ℕ) → w < workers_of v → length (updates_by (terms_within r v.limits) w) < 2 ^ 32
    pub updates : (w : ℕ) → w < workers_of v
        → All (λ u. (u.cell < size_of (shape_of v)) × (r.is_value u.value ≡ true)) (updates_by (terms_within r v.limits) w)
    pub cells : (w : ℕ) (d : CounterView Held) → slice_get v.workers w ≡ Some d → length d.sketch.held ≡ size_of (shape_of v)
    pub fronts : length v.fold.front ≡ workers_of v

  -- the core is that of this state of a run
  pub record IsCoreAt (stands : Held → ℤ → ℤ → Type 0) (r : Rules) (v : Core K Held) (s : State) : Type 0 where
    pub fit : IsFitForRun r v
    pub lawful : IsLawfulState (terms_within r v.limits) s
    pub each : (w : ℕ) (d : CounterView Held) → slice_get v.workers w ≡ Some d
        → IsWorkerAt stands (terms_within r v.limits) w d (worker_in s w)
    pub fold : IsStateAfter r v.fold s.folded
    pub shown : IsShownOf r (layout_of v.fold) (shown_messages s) v.shown
    pub readers : length s.seen ≡ length v.seen
    pub seen : (q : ℕ) (front : Listed ℕ) → slice_get v.seen q ≡ Some front
        → front.items ≡ front_of (workers_of v) (take (slice_index_or s.seen q 0) s.folded)

  -- the state after these events
  abbrev pub run_state : Rules → Core K Held → List Event → State
  run_state r v events = lag_run (terms_within r v.limits) (length v.seen) events

  -- the core has run these events
  abbrev pub IsCoreAfter : (Held → ℤ → ℤ → Type 0) → Rules → Core K Held → List Event → Type 0
  IsCoreAfter stands r v events = IsCoreAt stands r v (run_state r v events)

  -- wherever the old core is at a state, the new one is at the state that the event makes of it, with its reply
  pub record Steps (stands : Held → ℤ → ℤ → Type 0) (r : Rules) (old new : Core K Held) (e : Event) (reply : Reply) : Type 0 where
    pub limits : new.limits ≡ old.limits
    pub readers : length new.seen ≡ length old.seen
    pub same_shape : new.shape ≡ old.shape
    pub layout : layout_of new.fold ≡ layout_of old.fold
    pub step : (s : State) → IsCoreAt stands r old s
        → IsCoreAt stands r new (lag_step (terms_within r old.limits) s e).0 × (reply ≡ (lag_step (terms_within r old.limits) s e).1)
