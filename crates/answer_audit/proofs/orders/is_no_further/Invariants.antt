use Rattle.std.proofs.Common.{◌≡◌, ◌<◌, ℕ, true}
use Rattle.std.specs.Prelude.{nat_le}
use Rattle.audit_law.specs.AnswerTests.{place_in}
use Rattle.answer_audit.proofs.orders.is_no_further.Given as goal

abbrev pub invariant-loop-worker : goal.invariant-loop-worker
invariant-loop-worker l = (k : ℕ) → k < l.worker → nat_le (place_in l.front k) (place_in l.other k) ≡ true
