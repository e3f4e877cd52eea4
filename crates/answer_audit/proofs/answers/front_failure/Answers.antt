use Rattle.std.proofs.Common.{◌∙◌, ◌==◌, ◌∷◌, [], sym, ap, ap₂, length, map, List, ℕ}
use Rattle.std.specs.Prelude.{sum}
use Rattle.std.specs.List.{range_with_len}
use Rattle.octo_text.specs.Content.{content_of}
use Rattle.told_table.specs.Tables.{lists_of}
use Rattle.audit_law.specs.declared.failure.Value.TheVariants.{Number}
use Rattle.audit_law.specs.Firsts.{first_of}
use Rattle.audit_law.specs.Tests.{first_failing, test}
use Rattle.audit_law.specs.AnswerTests.{answer_at, order_test, within_test}
use Rattle.answer_audit.proofs.Judging.{folded_is, front_is, front_parts, judged_at, lists_long}
use Rattle.answer_audit.proofs.answers.front_failure.Goals as goal

pub within_failure-within-requires : goal.within_failure-within-requires
within_failure-within-requires c =
    ap length c.as_slice-front.ensures
    ∙ (judged_at c.args.journal.now.options c.args.journal.now.lists.answers.items _ c.get-answer.result.now c.requires.answers c.get-answer.ensures).fits.front
    ∙ sym c.requires.workers

pub order_failure-order-requires-clause-lens : goal.order_failure-order-requires-clause-lens
order_failure-order-requires-clause-lens c = λ k d lt.
    (c.requires.answers k d lt).fits.front
    ∙ sym (judged_at c.args.journal.now.options c.args.journal.now.lists.answers.items _ c.get-answer.result.now c.requires.answers c.get-answer.ensures).fits.front
    ∙ sym (ap length c.as_slice-front.ensures)

pub returns : goal.returns
returns c =
    let j = c.args.journal.now in
    let line = c.args.line in
    let messages = lists_of c.args.messages.now in
    let front = c.as_slice-front.ensures ∙ sym (front_is j c.args.place c.get-answer.result.now c.get-answer.ensures) in
    let folded = sym (folded_is j c.args.place c.get-answer.result.now c.get-answer.ensures) in
    c.first_of-3.ensures
    ∙ ap (first_of c.folded_failure-folded.result) (c.first_of-2.ensures ∙ ap (first_of c.within_failure-within.result) c.first_of.ensures)
    ∙ front_parts line (content_of j) messages c.args.place c.folded_failure-folded.result c.within_failure-within.result c.rising_of-rising.result c.order_failure-order.result
    (c.folded_failure-folded.ensures ∙ ap₂ (λ (n : ℕ) (t : List ℕ). first_failing (test line (Number n) (Number (sum t)) (n == sum t) ∷ [])) folded front)
    (c.within_failure-within.ensures
    ∙ ap₂ (λ (t : List ℕ) (n : ℕ). first_failing (map (within_test line messages t) (range_with_len 0 n))) front (lists_long c.args.messages.now))
    c.rising_of-rising.ensures
    (c.order_failure-order.ensures
    ∙ ap (λ (t : List ℕ). first_failing (map (λ e. order_test line t (answer_at (content_of j) e).front) (range_with_len 0 c.args.place))) front)
