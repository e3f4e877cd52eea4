use Rattle.std.proofs.Common.{◌∙◌}
use Rattle.octo_engine.proofs.Answering.{answers_none, answers_more, row_room}
use Rattle.octo_engine.proofs.looks.answers_from.Goals as goal

pub answer_all-requires-clause-room : goal.answer_all-requires-clause-room
answer_all-requires-clause-room c =
    row_room c.readers.reader c.args.options.now.readers c.args.options.now.asks _ _ c.readers-test.true c.readers.invariant.1.len c.readers.invariant.0

pub readers-init : goal.readers-init
readers-init c = (c.in_ok-answers.ensures.room, answers_none c.args.options.now.asks c.args.looks.now.items c.in_ok-answers.answers.items c.in_ok-answers.ensures.empty)

pub readers-preserved : goal.readers-preserved
readers-preserved c = (
  c.in_ok-answer_all.ensures.room ∙ c.readers.invariant.0,
  answers_more c.readers.reader c.args.options.now.asks c.args.looks.now.items c.readers.answers.items c.answer_all.new.answers.items c.readers.invariant.1 c.in_ok-answer_all.ensures.answers,
)
