use Rattle.octo_text.specs.Content.{content_of}
use Rattle.audit_law.specs.AnswerTests.{answer_at, order_test}
use Rattle.audit_law.proofs.Failing.{AllPass}
use Rattle.answer_audit.proofs.orders.first_unordered.Given as goal

abbrev pub invariant-loop-earlier : goal.invariant-loop-earlier
invariant-loop-earlier l = AllPass (λ e. order_test l.line l.front (answer_at (content_of l.journal) e).front) l.earlier
