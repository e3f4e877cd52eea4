use Rattle.std.specs.Prelude.{IsSome}
use Rattle.aggregate.specs.Sweeps.{KeepsPair}
use Rattle.aggregate.specs.Takens.{ArePassesOf}
use Rattle.thread_run.proofs.folding.drop_all.Given as goal

abbrev pub invariant-loop : goal.invariant-loop
invariant-loop g l = record {
  ends : ArePassesOf l.lanes l.aggregator.outs;
  same : KeepsPair l.fn.aggregator l.aggregator;
  held : IsSome l.aggregator.held;
}
