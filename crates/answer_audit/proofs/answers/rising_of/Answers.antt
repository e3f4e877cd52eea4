use Rattle.std.proofs.Common.{rules, ◌≡◌, ◌∙◌, ◌-◌, ◌==◌, true, false, sym, ap, ap₂, length, map}
use Rattle.std.specs.Prelude.{Some, slice_get}
use Rattle.std.specs.List.{range_with_len}
use Rattle.audit_law.specs.Tests.{first_failing}
use Rattle.audit_law.specs.AnswerTests.{rising_test}
use Rattle.answer_audit.proofs.Judging.{judged_at, rising_first, rising_later}
use Rattle.answer_audit.proofs.answers.rising_of.Goals as goal

pub returns-then-answer-eq0 : goal.returns-then-answer-eq0
returns-then-answer-eq0 c =
    let first : (c.get-answer.result.now.number == 0) ≡ true = search rules in
    rising_first c.args.line c.args.journal.now c.args.place c.get-answer.result.now c.get-answer.ensures first

pub rising_failure-requires : goal.rising_failure-requires
rising_failure-requires c =
    let items = c.args.journal.now.lists.answers.items in
    let o = c.args.journal.now.options in
    ap length c.as_slice.ensures
    ∙ (judged_at o items _ c.get-before.result.now c.requires.answers c.get-before.ensures).fits.front
    ∙ sym (judged_at o items _ c.get-answer.result.now c.requires.answers c.get-answer.ensures).fits.front
    ∙ sym (ap length c.as_slice-2.ensures)

pub returns : goal.returns
returns c =
    let later : (c.get-answer.result.now.number == 0) ≡ false = search rules in
    let before : slice_get c.args.journal.now.lists.answers.items (c.args.place - 1) ≡ Some c.get-before.result.now = search rules in
    c.rising_failure.ensures
    ∙ ap₂ (λ p q. first_failing (map (rising_test c.args.line p q) (range_with_len 0 (length q)))) c.as_slice.ensures c.as_slice-2.ensures
    ∙ rising_later c.args.line c.args.journal.now c.args.place c.get-answer.result.now c.get-before.result.now c.get-answer.ensures before later
