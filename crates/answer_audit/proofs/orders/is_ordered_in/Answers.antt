use Rattle.std.proofs.Common.{◌∙◌, ℕ, List, ap, sym, arith}
use Rattle.octo_text.specs.Content.{content_of}
use Rattle.audit_law.specs.AnswerTests.{is_no_further}
use Rattle.answer_audit.proofs.Judging.{front_is}
use Rattle.answer_audit.proofs.Ordered.{ordered_in}
use Rattle.answer_audit.proofs.orders.is_ordered_in.Goals as goal

pub returns-then-place-end : goal.returns-then-place-end
returns-then-place-end c = λ _ rise.
    let found = c.first_further-place.ensures in
    ordered_in (content_of c.args.journal.now) c.args.front.now c.args.start c.args.end c.first_further-place.result found.range.0 found.range.1 found.before
    (λ lt. absurd (omega (arith, lt, c.if-place-end.true))) rise

pub returns : goal.returns
returns c = λ is rise.
    let j = c.args.journal.now in
    let found = c.first_further-place.ensures in
    ordered_in (content_of j) c.args.front.now c.args.start c.args.end c.first_further-place.result found.range.0 found.range.1 found.before
    (λ _. ap (λ (t : List ℕ). is_no_further c.args.front.now t) (front_is j c.first_further-place.result c.get.result.now c.get.ensures ∙ sym c.as_slice.ensures)
    ∙ sym c.is_no_further.ensures ∙ is) rise
