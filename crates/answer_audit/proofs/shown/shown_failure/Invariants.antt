use Rattle.audit_law.proofs.Failing.{AllPass}
use Rattle.answer_audit.specs.Answered.{shown_test}
use Rattle.answer_audit.proofs.shown.shown_failure.Given as goal

abbrev pub invariant-loop-place : goal.invariant-loop-place
invariant-loop-place g l = AllPass (shown_test l.line g.K.Kind.rules l.table l.keys l.shown) l.place
