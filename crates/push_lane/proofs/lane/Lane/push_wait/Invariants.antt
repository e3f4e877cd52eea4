use Rattle.std.proofs.Common.{◌≡◌, ◌≤◌, ◌⊎◌, length}
use Rattle.push_lane.proofs.lane.Lane.push_wait.Given as goal

abbrev pub invariant-loop : goal.invariant-loop
invariant-loop g l =
    (l.pass.id ≡ l.initial.pass.id) × (l.pass.sent ≡ l.initial.pass.sent) × (l.initial.pass.fulls ≤ l.pass.fulls)
    × ((l.pass.fulls ≡ l.initial.pass.fulls) ⊎ (l.self.capacity ≤ length l.initial.pass.sent))
