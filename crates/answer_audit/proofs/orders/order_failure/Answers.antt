use Rattle.std.proofs.Common.{sym}
use Rattle.octo_text.specs.Content.{content_of}
use Rattle.audit_law.specs.AnswerTests.{answer_at, order_test}
use Rattle.audit_law.proofs.Failing.{all_pass}
use Rattle.answer_audit.proofs.orders.order_failure.Goals as goal

pub returns-then-is_ordered : goal.returns-then-is_ordered
returns-then-is_ordered c =
    sym (all_pass (λ e. order_test c.args.line c.args.front.now (answer_at (content_of c.args.journal.now) e).front) c.args.place
    (c.is_ordered.ensures c.if-is_ordered.true (c.requires.numbered c.if-numbered.true) c.requires.risen c.args.line))
