use Rattle.std.proofs.Common.{◌≡◌}
use Rattle.run_tests.proofs.views.write_all.Given as goal

abbrev pub invariant-loop-update : goal.invariant-loop-update
invariant-loop-update g l = (l.writer.book ≡ l.initial.writer.book) × (l.writer.layout ≡ l.initial.writer.layout)
