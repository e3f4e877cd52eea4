-- The round schedule: rounds in which each worker counts, each lane is folded, and each reader asks.
use Rattle.std.specs.Prelude.{◌≡◌, ◌<◌, ℕ, zero, suc, ◌*◌, ◌-◌, ◌∷◌, ◌++◌, ◌||◌, List, [], Bool, true, false, if◌then◌else◌, length, fold, min, nat_lt, count_by, replicate}
use Rattle.std.specs.Fn.{iterate}
use Rattle.std.specs.List.{list_any, range_with_len}
use Rattle.hash_rows.specs.declared.options.Options.{Options}
use Rattle.hash_rows.specs.declared.shape.Packet.{Packet}
use Rattle.push_history.specs.declared.event.Event.{Event}
use Rattle.push_history.specs.declared.event.Event.TheVariants.{Update, Take, Publish, Ask}
use Rattle.push_history.specs.declared.event.Reply.{Reply}
use Rattle.push_history.specs.declared.event.Reply.TheVariants.{Waits}
use Rattle.push_history.specs.LagRun.{Terms, State, worker_in, updates_by, lag_run, reply_to}
use Rattle.push_history.specs.Answers.{is_ask}
use Rattle.push_history.specs.Journal.{Journal, terms_of, journal_of}

-- the worker's updates that aren't counted
abbrev pub updates_left : Terms → State → ℕ → ℕ
updates_left t s w = length (updates_by t w) - (worker_in s w).counted

-- the messages in its lane
abbrev pub held_by : State → ℕ → ℕ
held_by s w = length (worker_in s w).sent - (worker_in s w).taken

-- whether an update has to wait for room in its lane
abbrev pub is_waits : Reply → Bool
is_waits Waits = true
is_waits _ = false

-- the events so far, and then Update(w) as often as given, ending early after a reply Waits
abbrev pub count_times : Terms → ℕ → ℕ → ℕ → List Event → List Event
count_times t readers w zero events = events
count_times t readers w (suc n) events =
    let more = events ++ Update w ∷ [] in
    if is_waits (reply_to t readers events (Update w)) then more else count_times t readers w n more

-- worker w counts in a round
unfoldable pub count_in_round : Terms → Options → List Event → ℕ → List Event
count_in_round t o events w =
    count_times t o.readers w (min (o.shape.rows * o.round) (updates_left t (lag_run t o.readers events) w)) events

-- the lane of worker w is folded in a round
unfoldable pub fold_in_round : Terms → Options → List Event → ℕ → List Event
fold_in_round t o events w = events ++ replicate (min o.batch (held_by (lag_run t o.readers events) w)) (Take w)

-- reader q asks in a round, if it has asks left
unfoldable pub ask_in_round : Options → List Event → ℕ → List Event
ask_in_round o events q = if nat_lt (count_by (is_ask q) events) o.asks then events ++ Ask q ∷ [] else events

-- the events so far, and then one round
unfoldable pub with_round : Terms → Options → List Event → List Event
with_round t o events =
    let counted = fold (count_in_round t o) events (range_with_len 0 o.workers) in
    let folded = fold (fold_in_round t o) counted (range_with_len 0 o.workers) in
    fold (ask_in_round o) (folded ++ Publish ∷ []) (range_with_len 0 o.readers)

-- whether a worker has updates left, or its lane a message
unfoldable pub is_busy : Terms → Options → List Event → Bool
is_busy t o events =
    let s = lag_run t o.readers events in
    list_any (λ w. nat_lt 0 (updates_left t s w) || nat_lt 0 (held_by s w)) (range_with_len 0 o.workers)

-- the events of n rounds
unfoldable pub events_of_rounds : Terms → Options → ℕ → List Event
events_of_rounds t o n = iterate (with_round t o) n []

-- the reader's remaining asks
unfoldable pub ask_at_end : Options → List Event → ℕ → List Event
ask_at_end o events q = events ++ replicate (o.asks - count_by (is_ask q) events) (Ask q)

-- rounds while a worker has updates left or its lane a message, and then the remaining asks
pub record AreRounds (t : Terms) (o : Options) (events : List Event) : Type 0 where
  pub rounds : ℕ
  pub busy : (n : ℕ) → n < rounds → is_busy t o (events_of_rounds t o n) ≡ true
  pub idle : is_busy t o (events_of_rounds t o rounds) ≡ false
  pub all : events ≡ fold (ask_at_end o) (events_of_rounds t o rounds) (range_with_len 0 o.readers)

-- the journal of the round schedule
pub record IsRoundsJournal (packets : List Packet) (o : Options) (j : Journal) : Type 0 where
  pub events : List Event
  pub schedule : AreRounds (terms_of packets o) o events
  pub journal : j ≡ journal_of packets o events
