-- What the aggregator and the readers leave.
use Rattle.std.specs.Prelude.{◌≡◌, List, [], None, false}
use Rattle.packet_key.specs.declared.key.FlowKey.{FlowKey}
use Rattle.hash_rows.specs.Rules.{Rules}
use Rattle.push_lane.specs.Views.{LaneView}
use Rattle.aggregate.specs.Sweeps.{HasTaken, KeepsPair}
use Rattle.aggregate.specs.Takens.{ArePassesOf}
use Rattle.thread_run.specs.Readers.{HaveAsked}
use Rattle.thread_run.specs.declared.parts.FoldPart.{FoldPart}
use Rattle.thread_run.specs.declared.parts.RestPart.{RestPart}

module _ {K H : Type 0} where
  -- the aggregator has ended; where it wanted no memory, all that it took is published
  pub record HasFolded (r : Rules) (lanes : List LaneView) (old new : FoldPart K H) : Type 0 where
    pub ends : ArePassesOf lanes new.aggregator.outs
    pub same : KeepsPair old.aggregator new.aggregator
    pub none : new.failed ≡ false → new.aggregator.held ≡ None
    pub published : new.failed ≡ false → new.aggregator.writer.pending ≡ []
    pub taken : new.failed ≡ false → HasTaken r old.aggregator → HasTaken r new.aggregator

  -- the aggregator has ended, and all readers made their asks
  pub record IsRestDone (r : Rules) (keys : List FlowKey) (lanes : List LaneView) (old new : RestPart K H) : Type 0 where
    pub fold : HasFolded r lanes old.fold new.fold
    pub readers : HaveAsked r keys old.readers.items new.readers.items
