use Rattle.std.proofs.Common.{◌++◌}
use Rattle.flow_base.specs.LinesRead.{left_of}
use Rattle.journal_read.specs.Entries.{line_of, Head, Terms}
use Rattle.journal_whole.specs.Drafted.{draft_of}
use Rattle.journal_whole.specs.declared.whole.JournalStop.TheVariants.{BadJournal, ReadFault}
use Rattle.journal_whole.proofs.Joining.{bad_lists, break_lists, chain, complete_journal, places_journal, readable_journal, same_stop, whole_journal}
use Rattle.journal_whole.proofs.whole.read_journal.Goals as goal

pub returns-in-Err-read_lists-clause-bad : goal.returns-in-Err-read_lists-clause-bad
returns-in-Err-read_lists-clause-bad g c = λ line is.
    bad_lists c.in-Ok.options (draft_of c.in-Ok-begin.reading) (left_of g.S.Source.left c.args.source.now) (left_of g.S.Source.left c.read_opening.new.source) (left_of g.S.Source.left c.read_lists.new.source) line
    c.in-Ok-begin.ensures.draft c.in-Ok.ensures.lawful.0 c.in-Ok.ensures.lawful.1 c.in-Ok.ensures.said (c.in-Err-read_lists.ensures.bad line (same_stop c.in-Err-read_lists.stop (BadJournal line) is))

pub returns-in-Err-read_lists-clause-front : goal.returns-in-Err-read_lists-clause-front
returns-in-Err-read_lists-clause-front g c = (
  (line_of Head ++ line_of (Terms c.in-Ok.options)) ++ c.read_lists.ensures.front.0,
  chain (left_of g.S.Source.left c.args.source.now) (left_of g.S.Source.left c.read_opening.new.source) (left_of g.S.Source.left c.read_lists.new.source)
      (line_of Head ++ line_of (Terms c.in-Ok.options)) c.read_lists.ensures.front.0 c.in-Ok.ensures.said c.read_lists.ensures.front.1,
)

pub returns-in-Ok-read_lists-clause-journal : goal.returns-in-Ok-read_lists-clause-journal
returns-in-Ok-read_lists-clause-journal g c =
    whole_journal c.in-Ok.options (draft_of c.in-Ok-begin.reading) c.read_lists.new.reading (left_of g.S.Source.left c.args.source.now) (left_of g.S.Source.left c.read_opening.new.source) (left_of g.S.Source.left c.read_lists.new.source)
    c.in-Ok-begin.ensures.draft c.in-Ok.ensures.lawful.0 c.in-Ok.ensures.lawful.1 c.in-Ok.ensures.said c.in-Ok-read_lists.ensures.complete c.in-Ok-read_lists.ensures.entries

pub returns-in-Ok-read_lists-clause-complete : goal.returns-in-Ok-read_lists-clause-complete
returns-in-Ok-read_lists-clause-complete g c = complete_journal c.read_lists.new.reading c.in-Ok-read_lists.ensures.proper c.in-Ok-read_lists.ensures.complete

pub returns-in-Ok-read_lists-clause-front : goal.returns-in-Ok-read_lists-clause-front
returns-in-Ok-read_lists-clause-front g c = (
  (line_of Head ++ line_of (Terms c.in-Ok.options)) ++ c.read_lists.ensures.front.0,
  chain (left_of g.S.Source.left c.args.source.now) (left_of g.S.Source.left c.read_opening.new.source) (left_of g.S.Source.left c.read_lists.new.source)
      (line_of Head ++ line_of (Terms c.in-Ok.options)) c.read_lists.ensures.front.0 c.in-Ok.ensures.said c.read_lists.ensures.front.1,
)

pub returns-in-Ok-read_lists-clause-places : goal.returns-in-Ok-read_lists-clause-places
returns-in-Ok-read_lists-clause-places g c = places_journal c.read_lists.new.reading c.in-Ok-read_lists.ensures.proper c.in-Ok-read_lists.ensures.complete

pub returns-in-Ok-read_lists-clause-readable : goal.returns-in-Ok-read_lists-clause-readable
returns-in-Ok-read_lists-clause-readable g c =
    readable_journal c.read_lists.new.reading c.in-Ok-read_lists.ensures.proper c.in-Ok-read_lists.ensures.complete c.in-Ok-read_lists.ensures.rooms.bits

pub returns-in-Err-read_lists-clause-broken : goal.returns-in-Err-read_lists-clause-broken
returns-in-Err-read_lists-clause-broken g c = λ is.
    break_lists c.in-Ok.options (draft_of c.in-Ok-begin.reading) (left_of g.S.Source.left c.args.source.now) (left_of g.S.Source.left c.read_opening.new.source) (left_of g.S.Source.left c.read_lists.new.source)
    c.in-Ok-begin.ensures.draft c.in-Ok.ensures.lawful.0 c.in-Ok.ensures.lawful.1 c.in-Ok.ensures.said (c.in-Err-read_lists.ensures.broken (same_stop c.in-Err-read_lists.stop ReadFault is))
