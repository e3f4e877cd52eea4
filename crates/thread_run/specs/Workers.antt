-- What holds of a worker's part before and after the run.
use Rattle.std.specs.Prelude.{◌≡◌, ◌<◌, ℕ, ℤ, ◌*◌, slice_index_or, List, [], length, None, false, true}
use Rattle.hash_rows.specs.declared.options.Full.TheVariants.{Wait}
use Rattle.hash_rows.specs.declared.options.Options.{Options}
use Rattle.hash_rows.specs.declared.shape.Packet.{Packet}
use Rattle.hash_rows.specs.Rules.{Rules}
use Rattle.hash_rows.specs.Shapes.{size_of}
use Rattle.push_history.specs.Updates.{updates_of}
use Rattle.push_lane.specs.Views.{LaneView}
use Rattle.push_rule.specs.Stands.{StandsFor}
use Rattle.shares.specs.Positions.{AreRising}
use Rattle.thread_run.specs.declared.parts.Crew.{Crew}
use Rattle.thread_run.specs.declared.parts.WorkerPart.{WorkerPart}
use Rattle.thread_work.specs.Worked.{HasTold, KeepsSketch}

module _ {K H : Type 0} where
  -- nothing was counted, and nothing sent through the pass, which is one of this lane
  pub record IsReady (stands : H → ℤ → ℤ → Type 0) (r : Rules) (o : Options) (packets : List Packet) (lane : LaneView)
      (p : WorkerPart K H) : Type 0 where
    pub share : AreRising (length packets) p.share
    pub fresh : StandsFor stands r p.sketch [] [] []
    pub idle : p.sketch.due ≡ None
    pub room : p.sketch.room ≡ o.shape.rows * length p.share
    pub cells : length p.sketch.held ≡ size_of o.shape
    pub id : p.pass.id ≡ lane.id
    pub sent : p.pass.sent ≡ []
    pub fulls : p.pass.fulls ≡ 0

  -- what the worker did of its share
  pub record HasWorked (stands : H → ℤ → ℤ → Type 0) (r : Rules) (o : Options) (packets : List Packet) (w : ℕ) (lane : LaneView)
      (old new : WorkerPart K H) : Type 0 where
    pub share : new.share ≡ old.share
    pub idle : new.sketch.due ≡ None
    pub same : KeepsSketch old.sketch new.sketch
    pub id : new.pass.id ≡ lane.id
    pub told : HasTold stands r w lane.capacity o.full new.sketch new.pass (updates_of r o.shape packets old.share)

  -- each worker's part is ready, with the lane at its place
  pub record AreReady (stands : H → ℤ → ℤ → Type 0) (r : Rules) (o : Options) (packets : List Packet) (lanes : List LaneView)
      (parts : List (WorkerPart K H)) : Type 0 where
    pub each : (i : ℕ) (l : LaneView) (p : WorkerPart K H) → i < length lanes
        → IsReady stands r o packets (slice_index_or lanes i l) (slice_index_or parts i p)

  -- each worker did its share
  pub record HaveWorked (stands : H → ℤ → ℤ → Type 0) (r : Rules) (o : Options) (packets : List Packet) (lanes : List LaneView)
      (old new : List (WorkerPart K H)) : Type 0 where
    pub len : length new ≡ length old
    pub each : (i : ℕ) (l : LaneView) (p : WorkerPart K H) → i < length lanes
        → HasWorked stands r o packets i (slice_index_or lanes i l) (slice_index_or old i p) (slice_index_or new i p)

  -- each worker did its share; or none started, which is only where pushes wait for room
  pub record IsCrewDone (stands : H → ℤ → ℤ → Type 0) (r : Rules) (o : Options) (packets : List Packet) (lanes : List LaneView)
      (old new : Crew K H) : Type 0 where
    pub worked : new.refused ≡ false → HaveWorked stands r o packets lanes old.workers.items new.workers.items
    pub waits : new.refused ≡ true → o.full ≡ Wait
