use Rattle.std.proofs.Common.{take, sym, subst, get_or}
use Rattle.std.specs.Prelude.{All}
use Rattle.std.proofs.lemmas.List.{take_all, take_more}
use Rattle.rounds_audit.specs.Ranges.{IsAnswerInRange}
use Rattle.journal_whole.proofs.Rows.{all_more}
use Rattle.rounds_audit.proofs.ranges.answers_fit.Goals as goal

pub loop-answer-preserved : goal.loop-answer-preserved
loop-answer-preserved c =
    let its = subst IsAnswerInRange c.answer-item.is c.answer_fits.ensures in
    subst (All IsAnswerInRange) (sym (take_more c.args.answers.now c.loop-answer.answer-index c.answer-item.result c.loop-answer-test.true))
    (all_more IsAnswerInRange (take c.loop-answer.answer-index c.args.answers.now) (get_or c.args.answers.now c.loop-answer.answer-index c.answer-item.result) c.loop-answer.invariant its)

pub returns : goal.returns
returns c = subst (All IsAnswerInRange) (take_all c.loop-answer.answer-index c.args.answers.now c.loop-answer-test.false) c.loop-answer.invariant
