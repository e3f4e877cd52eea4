use Rattle.aggregate.proofs.Kept.{same_then}
use Rattle.thread_run.proofs.folding.fold_all.Goals as goal

pub returns-then-over-clause-taken : goal.returns-then-over-clause-taken
returns-then-over-clause-taken g c = λ was. c.sweep.ensures.taken (c.loop.invariant.taken was)

pub loop-preserved-then-swept-eq0 : goal.loop-preserved-then-swept-eq0
loop-preserved-then-swept-eq0 g c = record {
  ends = c.sweep.ensures.ends;
  same = same_then _ c.loop.aggregator c.sweep.new.self c.loop.invariant.same c.sweep.ensures.same;
  taken = λ was. c.sweep.ensures.taken (c.loop.invariant.taken was);
}

pub loop-preserved : goal.loop-preserved
loop-preserved g c = record {
  ends = c.sweep.ensures.ends;
  same = same_then _ c.loop.aggregator c.sweep.new.self c.loop.invariant.same c.sweep.ensures.same;
  taken = λ was. c.sweep.ensures.taken (c.loop.invariant.taken was);
}
