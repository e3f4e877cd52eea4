use Rattle.std.proofs.Common.{◌≡◌, ◌≤◌, ◌+◌, length}
use Rattle.run_tests.proofs.sweeps.send_some.Given as goal

abbrev pub invariant-loop-update : goal.invariant-loop-update
invariant-loop-update g l = (l.pass.id ≡ l.initial.pass.id) × (length l.pass.sent ≤ length l.initial.pass.sent + l.update)
