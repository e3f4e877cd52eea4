use Rattle.std.proofs.Common.{◌≡◌, ◌+◌, ◌++◌, map, length}
use Rattle.heavy_keys.specs.Ranks.{flow_at_rank}
use Rattle.heavy_keys.proofs.top_flows.flows_of.Given as goal

abbrev pub invariant-loop-estimate : goal.invariant-loop-estimate
invariant-loop-estimate l = (l.flows.items ++ map flow_at_rank l.top.keys ≡ map flow_at_rank l.fn.top.keys)
    × (length l.flows.items + length l.top.keys ≡ l.flows.room)

abbrev pub decreases-loop-estimate : goal.decreases-loop-estimate
decreases-loop-estimate l = length l.top.keys
