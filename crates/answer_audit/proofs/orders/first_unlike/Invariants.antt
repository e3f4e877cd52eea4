use Rattle.std.proofs.Common.{◌≡◌, ◌<◌, ℕ}
use Rattle.audit_law.specs.AnswerTests.{place_in}
use Rattle.answer_audit.proofs.orders.first_unlike.Given as goal

abbrev pub invariant-loop-worker : goal.invariant-loop-worker
invariant-loop-worker l = (k : ℕ) → k < l.worker → place_in l.front k ≡ place_in l.other k
