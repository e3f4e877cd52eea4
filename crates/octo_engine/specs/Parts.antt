-- What a worker's part holds, and what a block of rounds makes of it.
use Rattle.std.specs.Prelude.{◌≡◌, ◌<◌, ◌≤◌, ℕ, ℤ, ◌+◌, ◌-◌, ◌*◌, ◌||◌, List, Bool, length, nat_lt, slice_index_or, slice_range}
use Rattle.hash_rows.specs.declared.options.Options.{Options}
use Rattle.hash_rows.specs.declared.shape.Packet.{Packet}
use Rattle.hash_rows.specs.declared.shape.Push.{Push}
use Rattle.hash_rows.specs.Rules.{Rules}
use Rattle.push_history.specs.LagRun.{Terms, Worker, fresh_worker}
use Rattle.push_history.specs.OwnSteps.{folded_in_round}
use Rattle.push_history.specs.Share.{share_of_worker}
use Rattle.round_law.specs.OwnRounds.{own_rounds}
use Rattle.push_rule.specs.Counters.{CounterView, in_lane}
use Rattle.push_rule.specs.Keeps.{Keeps}
use Rattle.octo_engine.specs.declared.worker.Part.{Part}
use Rattle.octo_engine.specs.Counts.{HasShare, IsFit}

-- the rounds of a block
abbrev pub block : ℕ
block = 128

-- where round k of the block ends among the messages
abbrev pub end_at : List ℕ → ℕ → ℕ
end_at ends k = slice_index_or ends k 0

-- the messages that are folded in a round of the block
abbrev pub cut_at : List ℕ → ℕ → List Push → List Push
cut_at ends k queue = slice_range queue (end_at ends k) (end_at ends (k + 1))

-- the ends of n rounds rise, and the last one is how many messages were taken
pub record AreEnds (ends : List ℕ) (n taken : ℕ) : Type 0 where
  pub len : length ends ≡ block + 1
  pub rising : (k : ℕ) → k < n → end_at ends k ≤ end_at ends (k + 1)
  pub within : (k : ℕ) → k ≤ n → end_at ends k ≤ taken
  pub last : end_at ends n ≡ taken

module _ {Held : Type 0} where
  -- worker x has gone through n rounds of the block, and between two ends stand the messages of the round
  pub record HasRun (stands : Held → ℤ → ℤ → Type 0) (t : Terms) (o : Options) (w : ℕ) (x : Worker) (n : ℕ) (ends : List ℕ)
      (d : CounterView Held) : Type 0 where
    pub keeps : Keeps stands t w d (own_rounds t o w n x)
    pub folded : (k : ℕ) → k < n → cut_at ends k d.queue ≡ folded_in_round t o w (own_rounds t o w k x)

module _ {K Held : Type 0} where
  -- the part's messages that are folded in a round of the block
  abbrev pub messages_in : ℕ → Part K Held → List Push
  messages_in k p = cut_at p.ends.items k p.counter.queue

  -- the part is fit, and its queue has room for a block
  pub record IsReadyForBlock (o : Options) (packets : ℕ) (p : Part K Held) : Type 0 where
    pub fit : IsFit o packets p.share p.counter
    pub room : o.lane + block * o.batch < p.counter.room
    pub ends : length p.ends.items ≡ block + 1

  -- whether it has updates left, or its lane a message
  abbrev pub is_busy_part : Part K Held → Bool
  is_busy_part p = nat_lt p.counter.sketch.counted p.counter.sketch.room || nat_lt 0 (in_lane p.counter)

  -- what is left to do: an update may become a message
  abbrev pub part_work : Part K Held → ℕ
  part_work p = 2 * (p.counter.sketch.room - p.counter.sketch.counted) + in_lane p.counter

  -- the part is worker w after n rounds
  pub record IsWorkerAfter (stands : Held → ℤ → ℤ → Type 0) (t : Terms) (o : Options) (packets : List Packet) (n w : ℕ)
      (p : Part K Held) : Type 0 where
    pub share : p.share ≡ share_of_worker o.share o.workers packets w
    pub sound : IsReadyForBlock o (length packets) p
    pub keeps : Keeps stands t w p.counter (own_rounds t o w n fresh_worker)

  -- a block of rounds of the worker: its part before and after
  pub record RanBlock (r : Rules) (stands : Held → ℤ → ℤ → Type 0) (o : Options) (packets : List Packet) (p q : Part K Held) : Type 0 where
    pub share : q.share ≡ p.share
    pub sound : IsReadyForBlock o (length packets) q
    pub ends : AreEnds q.ends.items block q.counter.taken
    pub run : (t : Terms) (w : ℕ) (x : Worker) → HasShare r t o.shape packets w p.share → Keeps stands t w p.counter x
        → HasRun stands t o w x block q.ends.items q.counter
