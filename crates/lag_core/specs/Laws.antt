-- What holds of each worker of a running core, as the core can be asked for it.
use Rattle.std.specs.Prelude.{◌≡◌, ◌<◌, ◌≤◌, ℕ, ℤ, ◌-◌, List, Some, take, drop, slice_get, slice_index_or}
use Rattle.hash_rows.specs.declared.shape.Push.{Push}
use Rattle.hash_rows.specs.Rules.{Rules}
use Rattle.push_history.specs.Front.{messages_of}
use Rattle.push_history.specs.LagRun.{State, updates_by, worker_in}
use Rattle.push_history.specs.Pushes.{LawfulPushes}
use Rattle.push_history.specs.Residue.{residue}
use Rattle.push_history.specs.Told.{told_of}
use Rattle.push_history.specs.Whole.{whole}
use Rattle.push_rule.specs.Counters.{CounterView}
use Rattle.lag_core.specs.Workers.{terms_within}
use Rattle.lag_core.specs.Lags.{Core, workers_of}

-- the messages in the worker's lane
abbrev pub lane_of : {Held : Type 0} → CounterView Held → List Push
lane_of d = drop d.taken d.queue

module _ {K Held : Type 0} where
  -- how many messages of the worker the core has folded
  abbrev pub folded_front : Core K Held → ℕ → ℕ
  folded_front v w = slice_index_or v.fold.front w 0

  -- how many of them it shows
  abbrev pub shown_front : Core K Held → ℕ → ℕ
  shown_front v w = slice_index_or v.shown.front.items w 0

  -- the pushes of worker w are lawful up to the updates that its sketch counted; of its messages the first are folded,
  -- as many as the core's front says, and the others wait in its lane
  pub record IsLawfulAt (r : Rules) (v : Core K Held) (s : State) (w : ℕ) (d : CounterView Held) : Type 0 where
    pub pushes : LawfulPushes r w v.limits.threshold v.limits.capacity v.limits.full
        (take d.sketch.counted (updates_by (terms_within r v.limits) w)) (worker_in s w).sent (worker_in s w).refused
    pub folded : messages_of w s.folded ≡ take (folded_front v w) (worker_in s w).sent
    pub queued : lane_of d ≡ drop (folded_front v w) (worker_in s w).sent

  -- so is it with each worker, and no more is shown than is folded
  pub record IsLawfulCore (r : Rules) (v : Core K Held) (s : State) : Type 0 where
    pub workers : (w : ℕ) (d : CounterView Held) → slice_get v.workers w ≡ Some d → IsLawfulAt r v s w d
    pub shown : (w : ℕ) → w < workers_of v → shown_front v w ≤ folded_front v w

  -- what those of a worker's messages that are shown tell of a cell
  abbrev pub told_shown : Rules → Core K Held → List Push → ℕ → ℕ → ℤ
  told_shown r v sent w cell = told_of r cell (take (shown_front v w) sent)

  -- what those tell that are folded and not shown
  abbrev pub told_folded : Rules → Core K Held → List Push → ℕ → ℕ → ℤ
  told_folded r v sent w cell = told_of r cell (take (folded_front v w - shown_front v w) (drop (shown_front v w) sent))

  -- what the sketch of a worker counted of a cell is the join of what is shown of it, folded and not shown, queued, and not told
  pub record Conserves (r : Rules) (v : Core K Held) (s : State) : Type 0 where
    pub whole_is : (w cell : ℕ) (d : CounterView Held) → slice_get v.workers w ≡ Some d →
        let updates = updates_by (terms_within r v.limits) w in
        let sent = (worker_in s w).sent in
        whole r updates d.sketch.counted cell
        ≡ r.join (r.join (r.join (told_shown r v sent w cell) (told_folded r v sent w cell)) (told_of r cell (lane_of d)))
        (residue r updates sent d.sketch.counted cell)
