use Rattle.std.proofs.Common.{◌≡◌, ◌≤◌, ◌-◌, List, length}
use Rattle.std.specs.Prelude.{None}
use Rattle.hash_rows.specs.declared.shape.Push.{Push}
use Rattle.aggregate.specs.Sweeps.{HasSweptLane, HasTaken, KeepsPair}
use Rattle.aggregate.specs.Takens.{ArePassesOf}
use Rattle.aggregate.proofs.aggregator.Aggregator.sweep_lane.Given as goal

abbrev pub invariant-loop-count : goal.invariant-loop-count
invariant-loop-count g l = record {
  ends : ArePassesOf l.lanes l.self.outs;
  same : KeepsPair l.initial.self l.self;
  count : l.count ≤ l.self.batch;
  held : l.self.held ≡ None;
  published : l.self.writer.published ≡ l.initial.self.writer.published;
  swept : (more : List Push) × HasSweptLane g.K.Kind.rules l.place more l.initial.self l.self × (l.count ≡ length more);
  taken : HasTaken g.K.Kind.rules l.initial.self → HasTaken g.K.Kind.rules l.self;
}

abbrev pub decreases-loop-count : goal.decreases-loop-count
decreases-loop-count g l = l.self.batch - l.count
