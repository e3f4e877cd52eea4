use Rattle.std.proofs.Common.{◌≡◌, List, length}
use Rattle.hash_rows.specs.declared.shape.Push.{Push}
use Rattle.aggregate.specs.Takens.{ArePassesOf, takens}
use Rattle.aggregate.proofs.Sweeping.{with_more}
use Rattle.aggregate.proofs.aggregator.drop_lane.Given as goal

abbrev pub invariant-loop-count : goal.invariant-loop-count
invariant-loop-count g l =
    ArePassesOf l.lanes l.outs.items
    × ((more : List Push) × (takens l.outs.items ≡ with_more (takens l.initial.outs.items) l.place more) × (length more ≡ l.count))
