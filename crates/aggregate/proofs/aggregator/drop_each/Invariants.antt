use Rattle.std.proofs.Common.{◌≡◌, ◌≤◌, ◌*◌, List, length}
use Rattle.hash_rows.specs.declared.shape.Push.{Push}
use Rattle.aggregate.specs.Sweeps.{HaveTaken, in_order}
use Rattle.aggregate.specs.Takens.{ArePassesOf}
use Rattle.aggregate.proofs.aggregator.drop_each.Given as goal

abbrev pub invariant-loop-place : goal.invariant-loop-place
invariant-loop-place g l = record {
  ends : ArePassesOf l.lanes l.outs.items;
  few : l.taken ≤ 1024 * l.place;
  took : (mores : List (List Push)) × HaveTaken l.batch mores l.initial.outs.items l.outs.items × (l.taken ≡ length (in_order mores)) × (length mores ≡ l.place);
}
