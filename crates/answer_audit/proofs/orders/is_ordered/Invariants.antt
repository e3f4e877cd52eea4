use Rattle.std.proofs.Common.{◌≡◌, ◌<◌, ◌*◌, ℕ, true}
use Rattle.octo_text.specs.Content.{content_of}
use Rattle.audit_law.specs.AnswerTests.{answer_at, order_test}
use Rattle.answer_audit.specs.Risen.{AreNumbered, HaveRisen}
use Rattle.answer_audit.proofs.orders.is_ordered.Given as goal

abbrev pub invariant-loop-reader : goal.invariant-loop-reader
invariant-loop-reader l = AreNumbered l.asks (content_of l.journal) → HaveRisen (content_of l.journal) l.place
    → (line e : ℕ) → e < l.reader * l.asks → e < l.place → (order_test line l.front (answer_at (content_of l.journal) e).front).holds ≡ true
