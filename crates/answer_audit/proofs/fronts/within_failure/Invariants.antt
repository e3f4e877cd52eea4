use Rattle.told_table.specs.Tables.{lists_of}
use Rattle.audit_law.specs.AnswerTests.{within_test}
use Rattle.audit_law.proofs.Failing.{AllPass}
use Rattle.answer_audit.proofs.fronts.within_failure.Given as goal

abbrev pub invariant-loop-worker : goal.invariant-loop-worker
invariant-loop-worker l = AllPass (within_test l.line (lists_of l.messages) l.front) l.worker
