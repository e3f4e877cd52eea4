use Rattle.aggregate.specs.Sweeps.{HasTaken, KeepsPair}
use Rattle.aggregate.specs.Takens.{ArePassesOf}
use Rattle.thread_run.proofs.folding.fold_all.Given as goal

abbrev pub invariant-loop : goal.invariant-loop
invariant-loop g l = record {
  ends : ArePassesOf l.lanes l.aggregator.outs;
  same : KeepsPair l.fn.aggregator l.aggregator;
  taken : HasTaken g.K.Kind.rules l.fn.aggregator → HasTaken g.K.Kind.rules l.aggregator;
}
