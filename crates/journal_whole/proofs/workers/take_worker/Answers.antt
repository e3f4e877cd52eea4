use Rattle.std.proofs.Common.{arith, ◌∙◌, refl, ◌+◌}
use Rattle.std.proofs.lemmas.List.{length-map}
use Rattle.hash_rows.specs.Marks.{marked}
use Rattle.journal_whole.proofs.Entered.{with_worker, rooms_worker}
use Rattle.journal_whole.proofs.Rows.{new_marked}
use Rattle.journal_whole.proofs.workers.take_worker.Goals as goal

pub push-requires : goal.push-requires
push-requires c = omega (arith, c.requires.more, c.requires.rooms.refused, c.requires.proper.refused_len, length-map c.args.reading.now.journal.lists.refused.items marked)

pub returns-clause-rooms : goal.returns-clause-rooms
returns-clause-rooms c =
    rooms_worker c.args.reading.now c.push.new.self c.push-2.new.self c.in_ok-bits.bits 134217728 (c.args.reading.now.refused + c.in-Some.said.refused) c.in-Some.said.refused
    c.requires.rooms c.push.ensures.items c.push.ensures.room c.push-2.ensures.room refl c.in_ok-bits.ensures

pub returns-clause-yes : goal.returns-clause-yes
returns-clause-yes c = λ _.
    with_worker c.args.reading.now c.push.new.self c.push-2.new.self c.in_ok-bits.bits c.in-Some.said.worker c.in-Some.said.pushes c.in-Some.said.refused c.args.line.now
    c.requires.listing c.requires.due (c.in-Some.ensures.some.0 ∙ c.len-worker.ensures) (omega (arith, c.requires.more, c.in-Some.ensures.some.0, c.len-worker.ensures))
    c.in-Some.ensures.some.1 c.in-Some.ensures.some.2 c.push.ensures.items (new_marked c.in_ok-bits.bits 134217728 c.in_ok-bits.ensures) c.push-2.ensures.items c.in-Some.ensures.line
