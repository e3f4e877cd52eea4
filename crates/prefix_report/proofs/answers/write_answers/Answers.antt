use Rattle.std.proofs.Common.{arith, ℕ, List, Ok, Err, sym, subst}
use Rattle.std.proofs.lemmas.List.Folds.{flat_map-map}
use Rattle.flow_base.specs.Writing.{Writes}
use Rattle.flow_base.specs.declared.flow.Failed.{Failed}
use Rattle.flow_base.proofs.WritingLemmas.{writes_none, writes_item, writes_item_stop, writes_items}
use Rattle.hash_rows.specs.declared.answer.Answer.{Answer}
use Rattle.push_history.specs.Answers.{parts_of}
use Rattle.prefix_report.specs.PrefixText.{answer_line}
use Rattle.prefix_report.proofs.answers.write_answers.Goals as goal

abbrev line_of : Answer → List ℕ
line_of answer = answer_line (parts_of answer)

pub loop-answer-init : goal.loop-answer-init
loop-answer-init g c = (writes_none _ tt, omega arith)

pub returns-in_err-write_answer-clause-writes : goal.returns-in_err-write_answer-clause-writes
returns-in_err-write_answer-clause-writes g c =
    subst (λ (text : List ℕ). Writes {T = Unit {0}} {E = Failed} (g.T.Sink.holds c.args.out.now) (g.T.Sink.holds c.write_answer.new.out) text c.from_residual.result)
    (sym (flat_map-map answer_line parts_of c.args.answers.now))
    (writes_item_stop line_of c.args.answers.now c.loop-answer.answer-index c.answer-item.result c.from_residual.result c.loop-answer-test.true c.from_residual.ensures.0 c.loop-answer.invariant.0
    (subst (λ (a : Answer). Writes {T = Unit {0}} {E = Failed} (g.T.Sink.holds c.loop-answer.out) (g.T.Sink.holds c.write_answer.new.out) (line_of a) (Err c.in_err-write_answer.field-0.0)) c.answer-item.is c.in_err-write_answer.ensures.writes))

pub loop-answer-preserved : goal.loop-answer-preserved
loop-answer-preserved g c = (
  writes_item line_of c.args.answers.now c.loop-answer.answer-index c.answer-item.result tt c.loop-answer-test.true c.loop-answer.invariant.0
      (subst (λ (a : Answer). Writes {T = Unit {0}} {E = Failed} (g.T.Sink.holds c.loop-answer.out) (g.T.Sink.holds c.write_answer.new.out) (line_of a) (Ok c.in_ok-write_answer.field-0)) c.answer-item.is c.in_ok-write_answer.ensures.writes),
  omega (arith, c.in_ok-write_answer.ensures.cause.later),
)

pub returns-clause-writes : goal.returns-clause-writes
returns-clause-writes g c =
    subst (λ (text : List ℕ). Writes {T = Unit {0}} {E = Failed} (g.T.Sink.holds c.args.out.now) (g.T.Sink.holds c.loop-answer.out) text (Ok tt))
    (sym (flat_map-map answer_line parts_of c.args.answers.now))
    (writes_items line_of c.args.answers.now c.loop-answer.answer-index c.loop-answer-test.false (omega arith) c.loop-answer.invariant.0)
