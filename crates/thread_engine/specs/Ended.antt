-- What is known of a run once its parts have ended, and once all that was sent is published.
use Rattle.std.specs.Prelude.{◌≡◌, ◌<◌, ◌^◌, ℤ, List, [], length}
use Rattle.packet_key.specs.declared.key.FlowKey.{FlowKey}
use Rattle.hash_rows.specs.declared.options.Options.{Options}
use Rattle.hash_rows.specs.declared.shape.Packet.{Packet}
use Rattle.hash_rows.specs.declared.shape.Push.{Push}
use Rattle.hash_rows.specs.Rules.{Rules}
use Rattle.push_lane.specs.Views.{LaneView}
use Rattle.aggregate.specs.Takens.{AreTaken}
use Rattle.live_state.specs.Fold.{Fit, state_after, layout_in}
use Rattle.thread_engine.specs.Tellings.{HaveToldAll}
use Rattle.thread_ends.specs.Ends.{both_fulls, both_sents}
use Rattle.thread_law.specs.Ran.{AreAnswers}
use Rattle.thread_run.specs.Rest.{IsRestDone}
use Rattle.thread_run.specs.Workers.{HaveWorked}
use Rattle.thread_run.specs.declared.parts.RestPart.{RestPart}
use Rattle.thread_run.specs.declared.parts.WorkerPart.{WorkerPart}
use Rattle.thread_setup.specs.Setups.{IsSetUp}
use Rattle.thread_setup.specs.declared.setup.Setup.{Setup}
use Rattle.thread_setup.specs.declared.spare.Spare.{Spare}

module _ {K H : Type 0} where
  -- all parts have ended, which began as they were set up
  pub record HaveEnded (stands : H → ℤ → ℤ → Type 0) (r : Rules) (o : Options) (packets : List Packet) (keys : List FlowKey)
      (lanes : List LaneView) (workers : List (WorkerPart K H)) (rest : RestPart K H) (spare : Spare K H) : Type 0 where
    pub before : Setup K H
    pub begun : IsSetUp stands r o packets before
    pub keys_are : keys ≡ before.keys.items
    pub lanes_are : lanes ≡ before.lanes.items
    pub spare_is : spare ≡ before.spare
    pub worked : HaveWorked stands r o packets lanes before.workers.items workers
    pub rested : IsRestDone r keys lanes before.rest rest

  -- what a run has room for, but its passes and sketches, is as it was
  pub record KeepsRooms (old new : Spare K H) : Type 0 where
    pub state : new.state ≡ old.state
    pub last : new.last ≡ old.last
    pub refused : new.refused ≡ old.refused
    pub pushes : new.pushes ≡ old.pushes
    pub live : new.live ≡ old.live
    pub answers : new.answers ≡ old.answers

module _ {K H : Type 0} where
  -- all that was sent is published; the state, the answers and the sketches are those of it, and the lists have room
  pub record IsAllPublished (stands : H → ℤ → ℤ → Type 0) (r : Rules) (o : Options) (packets : List Packet) (published : List Push)
      (s : Spare K H) : Type 0 where
    pub told : HaveToldAll stands r o packets s.sketches.items (both_sents s.passes.items) (both_fulls s.passes.items)
    pub taken : AreTaken r (layout_in o) (both_sents s.passes.items) published
    pub fit : Fit r (layout_in o) published
    pub few : length published < 2 ^ 64
    pub state : s.state ≡ state_after r (layout_in o) published
    pub answers : AreAnswers o published s.answers.items
    pub refused : (s.refused.items ≡ []) × (s.refused.room ≡ o.workers)
    pub pushes : (s.pushes.items ≡ []) × (s.pushes.room ≡ o.workers)
    pub live : (s.live.items ≡ []) × (s.live.room ≡ o.heavy)
