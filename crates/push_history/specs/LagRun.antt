-- A run of workers, lanes and readers, one event after another.
use Rattle.std.specs.Prelude.{Bool, true, false, ℕ, ◌+◌, ◌-◌, ◌==◌, ◌∷◌, ◌++◌, List, [], if◌then◌else◌, length, fold, nat_lt, replicate, slice_index_or, slice_set}
use Rattle.hash_rows.specs.declared.options.Full.{Full}
use Rattle.hash_rows.specs.declared.options.Full.TheVariants.{Leave, Wait}
use Rattle.hash_rows.specs.declared.shape.Update.{Update as Entry}
use Rattle.hash_rows.specs.declared.shape.Push.{Push}
use Rattle.hash_rows.specs.Rules.{Rules}
use Rattle.push_history.specs.declared.event.Event.{Event}
use Rattle.push_history.specs.declared.event.Event.TheVariants.{Update, Take, Publish, Ask}
use Rattle.push_history.specs.declared.event.Reply.{Reply}
use Rattle.push_history.specs.declared.event.Reply.TheVariants.{Counted, Pushed, Refused, Waits, Took, Empty, Published, Answered, Over}
use Rattle.push_history.specs.Updates.{update_at}
use Rattle.push_history.specs.Whole.{whole}
use Rattle.push_history.specs.Told.{told}
use Rattle.push_history.specs.Pushes.{distance_at}
use Rattle.push_history.specs.Front.{message_at}

-- what a run is of: the kind, the threshold, how many messages a lane holds, what becomes of a push that meets a full
-- lane, and each worker's updates
pub record Terms : Type 0 where
  pub rules : Rules
  pub threshold : ℕ
  pub capacity : ℕ
  pub full : Full
  pub updates : List (List Entry)

-- of a worker: how many updates it counted, its messages, its refused updates, how many of its messages were taken
pub record Worker : Type 0 where
  pub counted : ℕ
  pub sent : List Push
  pub refused : List ℕ
  pub taken : ℕ

-- the workers, the messages that were folded, how many of these are shown, and how many each reader has seen
pub record State : Type 0 where
  pub workers : List Worker
  pub folded : List Push
  pub shown : ℕ
  pub seen : List ℕ

-- the updates of worker w
abbrev pub updates_by : Terms → ℕ → List Entry
updates_by t w = slice_index_or t.updates w []

-- a worker that did nothing yet
abbrev pub fresh_worker : Worker
fresh_worker = record { counted = 0; sent = []; refused = []; taken = 0 }

-- worker w of a state
abbrev pub worker_in : State → ℕ → Worker
worker_in s w = slice_index_or s.workers w fresh_worker

-- the state with this worker in place of worker w
abbrev pub with_worker : State → ℕ → Worker → State
with_worker s w worker = record { workers = slice_set s.workers w worker; folded = s.folded; shown = s.shown; seen = s.seen }

-- the message of update k after these messages of worker w: all of its cell that wasn't told before
unfoldable pub message_of : Rules → ℕ → List Entry → List Push → ℕ → Push
message_of r w updates sent k =
    let update = update_at updates k in
    record {
      worker = w;
      packet = update.packet;
      update = k;
      key = update.key;
      cell = update.cell;
      amount = r.gap (told r sent k update.cell) (whole r updates (k + 1) update.cell);
    }

-- whether a push that meets a full lane waits
abbrev pub is_wait : Full → Bool
is_wait Leave = false
is_wait Wait = true

-- a push that meets a full lane
abbrev pub meets_full : Full → Worker → Worker × Reply
meets_full Leave worker = (
  record {
    counted = worker.counted + 1;
    sent = worker.sent;
    refused = worker.refused ++ worker.counted ∷ [];
    taken = worker.taken;
  },
  Refused,
)
meets_full Wait worker = (worker, Waits)

-- a push that its lane has room for
abbrev pub pushes : Push → Worker → Worker × Reply
pushes message worker = (
  record {
    counted = worker.counted + 1;
    sent = worker.sent ++ message ∷ [];
    refused = worker.refused;
    taken = worker.taken;
  },
  Pushed message.amount,
)

-- worker w takes up its next update
unfoldable pub count_step : Terms → ℕ → Worker → Worker × Reply
count_step t w worker =
    let updates = updates_by t w in
    if worker.counted == length updates then (worker, Over)
    else if nat_lt (distance_at t.rules updates worker.sent worker.counted) t.threshold then
    (record { counted = worker.counted + 1; sent = worker.sent; refused = worker.refused; taken = worker.taken }, Counted)
    else if nat_lt (length worker.sent - worker.taken) t.capacity then
    pushes (message_of t.rules w updates worker.sent worker.counted) worker
    else meets_full t.full worker

-- the oldest message of the lane of worker w is folded
unfoldable pub take_step : State → ℕ → State × Reply
take_step s w =
    let worker = worker_in s w in
    let message = message_at worker.sent worker.taken in
    if worker.taken == length worker.sent then (s, Empty)
    else (
      record {
        workers = slice_set s.workers w (record {
          counted = worker.counted;
          sent = worker.sent;
          refused = worker.refused;
          taken = worker.taken + 1;
        });
        folded = s.folded ++ message ∷ [];
        shown = s.shown;
        seen = s.seen;
      },
      Took message.amount,
    )

-- what an event makes of a state, and the reply
unfoldable pub lag_step : Terms → State → Event → State × Reply
lag_step t s (Update w) = let counted = count_step t w (worker_in s w) in (with_worker s w counted.0, counted.1)
lag_step t s (Take w) = take_step s w
lag_step t s Publish = (record { workers = s.workers; folded = s.folded; shown = length s.folded; seen = s.seen }, Published)
lag_step t s (Ask q) = (record { workers = s.workers; folded = s.folded; shown = s.shown; seen = slice_set s.seen q s.shown }, Answered)

-- nothing counted, sent, folded or seen
unfoldable pub start : ℕ → ℕ → State
start workers readers = record { workers = replicate workers fresh_worker; folded = []; shown = 0; seen = replicate readers 0 }

-- the state after some events
unfoldable pub lag_run : Terms → ℕ → List Event → State
lag_run t readers events = fold (λ s e. (lag_step t s e).0) (start (length t.updates) readers) events

-- the reply to one more event
unfoldable pub reply_to : Terms → ℕ → List Event → Event → Reply
reply_to t readers events e = (lag_step t (lag_run t readers events) e).1
