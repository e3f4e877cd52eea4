use Rattle.std.proofs.Common.{arith, ◌+◌, ◌-◌, true≢false}
use Rattle.std.proofs.lemmas.List.{length-map}
use Rattle.hash_rows.specs.Marks.{marked}
use Rattle.journal_whole.proofs.Entered.{with_run, rooms_run}
use Rattle.journal_whole.proofs.Rows.{clear_on}
use Rattle.journal_whole.proofs.workers.take_run.Goals as goal

pub mark-requires-clause-clear : goal.mark-requires-clause-clear
mark-requires-clause-clear c = clear_on c.args.reading.now.journal.lists.refused.items c.args.reading.now.least c.in-Some.said.first c.in-Some.ensures.some.2 c.requires.rooms.clear

pub mark-requires-clause-room : goal.mark-requires-clause-room
mark-requires-clause-room c =
    omega (arith, c.requires.rooms.refused, c.requires.proper.refused_len, c.requires.proper.pushes, length-map c.args.reading.now.journal.lists.refused.items marked)

pub returns-clause-rooms : goal.returns-clause-rooms
returns-clause-rooms c =
    rooms_run c.args.reading.now c.mark.new.rows (c.in-Some.said.last + 1) (c.args.reading.now.due - (c.in-Some.said.last + 1 - c.in-Some.said.first))
    c.requires.rooms c.mark.ensures.room c.mark.ensures.len c.mark.ensures.clear

pub returns-clause-judges : goal.returns-clause-judges
returns-clause-judges c = record {
  yes = λ _. with_run c.args.reading.now c.mark.new.rows c.in-Some.said.worker c.in-Some.said.first c.in-Some.said.last c.args.line.now
      c.in-Some.ensures.some c.mark.ensures.marked c.in-Some.ensures.line;
  no = λ never. absurd (true≢false never);
}
