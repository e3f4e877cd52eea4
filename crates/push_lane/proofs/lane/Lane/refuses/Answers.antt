use Rattle.push_lane.proofs.Steps.{ends}
use Rattle.push_lane.proofs.lane.Lane.refuses.Goals as goal

pub is_full_as-requires-clause-rule : goal.is_full_as-requires-clause-rule
is_full_as-requires-clause-rule c = ends _ _ c.pass.invariant.1
