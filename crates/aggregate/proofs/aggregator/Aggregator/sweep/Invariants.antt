use Rattle.std.proofs.Common.{◌≡◌, ◌≤◌, ◌*◌, List, length}
use Rattle.std.specs.Prelude.{None}
use Rattle.hash_rows.specs.declared.shape.Push.{Push}
use Rattle.aggregate.specs.Sweeps.{HasSwept, HasTaken, KeepsPair, in_order}
use Rattle.aggregate.specs.Takens.{ArePassesOf}
use Rattle.aggregate.proofs.aggregator.Aggregator.sweep.Given as goal

abbrev pub invariant-loop-place : goal.invariant-loop-place
invariant-loop-place g l = record {
  ends : ArePassesOf l.lanes l.self.outs;
  same : KeepsPair l.fn.self l.self;
  few : l.taken ≤ 1024 * l.place;
  held : l.self.held ≡ None;
  published : l.self.writer.published ≡ l.fn.self.writer.published;
  swept : (mores : List (List Push)) × HasSwept g.K.Kind.rules mores l.fn.self l.self × (l.taken ≡ length (in_order mores)) × (length mores ≡ l.place);
  taken : HasTaken g.K.Kind.rules l.fn.self → HasTaken g.K.Kind.rules l.self;
}
