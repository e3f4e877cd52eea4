use Rattle.std.proofs.Common.{arith, sym, ap, true≢false}
use Rattle.std.proofs.lemmas.List.{length-map}
use Rattle.push_history.specs.Answers.{parts_of}
use Rattle.journal_whole.specs.Drafted.{draft_of, stage_of}
use Rattle.journal_whole.proofs.Entered.{answer_back, with_answer}
use Rattle.journal_whole.proofs.Judging.{answer_alone}
use Rattle.journal_whole.proofs.answers.take_answer.Goals as goal

pub returns-then-read_next-clause-judges : goal.returns-then-read_next-clause-judges
returns-then-read_next-clause-judges c = record {
  yes = λ _. with_answer c.args.reading.now c.push.new.self c.read_next.new.answer c.len-place.result c.args.line.now c.requires.listing c.requires.due c.requires.all
      c.len-place.ensures c.requires.more (c.read_next.ensures.yes c.if-read_next.true c.args.reading.now.journal.options c.len-place.result c.in_ok-answer.ensures)
      c.push.ensures.items (c.read_next.ensures.line c.if-read_next.true);
  no = λ never. absurd (true≢false never);
}

pub returns-else-read_next-clause-judges : goal.returns-else-read_next-clause-judges
returns-else-read_next-clause-judges c = record {
  yes = λ never. absurd (true≢false (sym never));
  no = λ _. answer_alone (draft_of c.args.reading.now) c.args.line.now (ap stage_of c.requires.listing) c.requires.due c.requires.proper.lawful.some_workers c.requires.all
      (omega (arith, c.requires.more, length-map c.args.reading.now.journal.lists.answers.items parts_of))
      (λ a may. c.read_next.ensures.no c.if-read_next.false c.args.reading.now.journal.options c.len-place.result c.in_ok-answer.ensures a
      (answer_back c.args.reading.now.journal.options c.args.reading.now.journal.lists.answers.items c.len-place.result a c.len-place.ensures may.2));
}
