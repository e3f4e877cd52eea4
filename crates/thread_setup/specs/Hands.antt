-- The lanes, and what has their ends.
use Rattle.std.specs.Prelude.{◌≡◌, ◌<◌, ℕ, ℤ, [], List, All, length, slice_index_or}
use Rattle.aggregate.specs.Takens.{ArePassesOf}
use Rattle.hash_rows.specs.declared.options.Options.{Options}
use Rattle.hash_rows.specs.declared.shape.Packet.{Packet}
use Rattle.hash_rows.specs.Rules.{Rules}
use Rattle.push_history.specs.Share.{share_of_worker}
use Rattle.thread_run.specs.declared.parts.WorkerPart.{WorkerPart}
use Rattle.thread_run.specs.Workers.{AreReady, IsReady}
use Rattle.thread_setup.specs.declared.hands.Hand.{Hand}
use Rattle.thread_setup.specs.declared.hands.Hands.{Hands}

module _ {K H : Type 0} where
  -- the worker has its share and is ready to push into the lane, of which nothing was taken
  pub record IsHand (stands : H → ℤ → ℤ → Type 0) (r : Rules) (o : Options) (packets : List Packet) (w : ℕ) (h : Hand K H) : Type 0 where
    pub capacity : h.lane.capacity ≡ o.lane
    pub ready : IsReady stands r o packets h.lane h.worker
    pub share : h.worker.share ≡ share_of_worker o.share o.workers packets w
    pub threshold : h.worker.sketch.threshold ≡ o.threshold
    pub ends : h.out.id ≡ h.lane.id
    pub untaken : h.out.taken ≡ []

  -- so of the first n workers
  pub record AreHands (stands : H → ℤ → ℤ → Type 0) (r : Rules) (o : Options) (packets : List Packet) (n : ℕ) (h : Hands K H) : Type 0 where
    pub lanes_len : length h.lanes.items ≡ n
    pub capacity : All (λ l. l.capacity ≡ o.lane) h.lanes.items
    pub workers_len : length h.workers.items ≡ n
    pub ready : AreReady stands r o packets h.lanes.items h.workers.items
    pub shares : (w : ℕ) (p : WorkerPart K H) → w < n
        → (slice_index_or h.workers.items w p).share ≡ share_of_worker o.share o.workers packets w
    pub thresholds : (w : ℕ) (p : WorkerPart K H) → w < n → (slice_index_or h.workers.items w p).sketch.threshold ≡ o.threshold
    pub ends : ArePassesOf h.lanes.items h.outs.items
    pub untaken : All (λ e. e.taken ≡ []) h.outs.items
