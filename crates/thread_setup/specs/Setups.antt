-- What a run in threads begins with.
use Rattle.std.specs.Prelude.{◌≡◌, ◌<◌, ◌*◌, ℕ, ℤ, [], List, All, None, false, length, slice_index_or}
use Rattle.aggregate.specs.Sweeps.{HasTaken}
use Rattle.aggregate.specs.Takens.{ArePassesOf}
use Rattle.hash_rows.specs.declared.answer.Answer.{Answer}
use Rattle.hash_rows.specs.declared.options.Options.{Options}
use Rattle.hash_rows.specs.declared.shape.Packet.{Packet}
use Rattle.hash_rows.specs.Rules.{Rules}
use Rattle.live_state.specs.Copies.{HasRoomFor}
use Rattle.live_state.specs.Fold.{fresh_state, layout_in}
use Rattle.live_view.specs.Views.{ReaderView, WriterView}
use Rattle.push_history.specs.Journal.{keys_of}
use Rattle.push_history.specs.Share.{share_of_worker}
use Rattle.thread_run.specs.declared.parts.ReaderPart.{ReaderPart}
use Rattle.thread_run.specs.declared.parts.WorkerPart.{WorkerPart}
use Rattle.thread_run.specs.Readers.{HaveRoom}
use Rattle.thread_run.specs.Workers.{AreReady}
use Rattle.thread_setup.specs.declared.setup.Setup.{Setup}
use Rattle.thread_setup.specs.declared.spare.Spare.{Spare}

-- the view is one of the pair and knows nothing
pub record IsFreshView (writer : WriterView) (v : ReaderView) : Type 0 where
  pub pair : (v.book ≡ writer.book) × (v.layout ≡ writer.layout)
  pub known : v.known ≡ []

module _ {K H : Type 0} where
  -- the state has no message, the last answer has room, and the lists are empty and have room
  pub record IsSpare (o : Options) (s : Spare K H) : Type 0 where
    pub state : s.state ≡ fresh_state (layout_in o)
    pub last : HasRoomFor o.workers (keys_of o) s.last
    pub passes : (s.passes.items ≡ []) × (s.passes.room ≡ o.workers)
    pub sketches : (s.sketches.items ≡ []) × (s.sketches.room ≡ o.workers)
    pub refused : (s.refused.items ≡ []) × (s.refused.room ≡ o.workers)
    pub pushes : (s.pushes.items ≡ []) × (s.pushes.room ≡ o.workers)
    pub live : (s.live.items ≡ []) × (s.live.room ≡ o.heavy)
    pub answers : (s.answers.items ≡ []) × (s.answers.room ≡ o.readers * o.asks)

  -- the view of reader q is one of the pair and knows nothing, and its answers have room and are numbered
  pub record IsReader (o : Options) (writer : WriterView) (q : ℕ) (p : ReaderPart K H) : Type 0 where
    pub pair : (p.view.book ≡ writer.book) × (p.view.layout ≡ writer.layout)
    pub known : p.view.known ≡ []
    pub asks : length p.answers.items ≡ o.asks
    pub room : All (HasRoomFor o.workers (keys_of o)) p.answers.items
    pub numbered : (k : ℕ) (d : Answer) → k < o.asks → ((slice_index_or p.answers.items k d).reader ≡ q)
        × ((slice_index_or p.answers.items k d).number ≡ k)

  -- so of the first n readers
  abbrev pub AreReaders : Options → WriterView → ℕ → List (ReaderPart K H) → Type 0
  AreReaders o writer n parts = (q : ℕ) (p : ReaderPart K H) → q < n → IsReader o writer q (slice_index_or parts q p)

  -- each worker has its share and has counted nothing, nothing was sent, taken or published, and the readers know nothing
  pub record IsSetUp (stands : H → ℤ → ℤ → Type 0) (r : Rules) (o : Options) (packets : List Packet) (s : Setup K H) : Type 0 where
    pub keys : s.keys.items ≡ keys_of o
    pub lanes_len : length s.lanes.items ≡ o.workers
    pub capacity : All (λ l. l.capacity ≡ o.lane) s.lanes.items
    pub workers_len : length s.workers.items ≡ o.workers
    pub ready : AreReady stands r o packets s.lanes.items s.workers.items
    pub shares : (w : ℕ) (p : WorkerPart K H) → w < o.workers
        → (slice_index_or s.workers.items w p).share ≡ share_of_worker o.share o.workers packets w
    pub thresholds : (w : ℕ) (p : WorkerPart K H) → w < o.workers → (slice_index_or s.workers.items w p).sketch.threshold ≡ o.threshold
    pub ends : ArePassesOf s.lanes.items s.rest.fold.aggregator.outs
    pub layout : s.rest.fold.aggregator.writer.layout ≡ layout_in o
    pub begun : HasTaken r s.rest.fold.aggregator
    pub fresh : (s.rest.fold.aggregator.writer.published ≡ []) × (s.rest.fold.aggregator.held ≡ None) × (s.rest.fold.failed ≡ false)
    pub readers_len : length s.rest.readers.items ≡ o.readers
    pub readers : AreReaders o s.rest.fold.aggregator.writer o.readers s.rest.readers.items
    pub room : HaveRoom (keys_of o) s.rest.readers.items
    pub spare : IsSpare o s.spare
