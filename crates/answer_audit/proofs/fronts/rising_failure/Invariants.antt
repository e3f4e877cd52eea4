use Rattle.audit_law.specs.AnswerTests.{rising_test}
use Rattle.audit_law.proofs.Failing.{AllPass}
use Rattle.answer_audit.proofs.fronts.rising_failure.Given as goal

abbrev pub invariant-loop-worker : goal.invariant-loop-worker
invariant-loop-worker l = AllPass (rising_test l.line l.before l.front) l.worker
