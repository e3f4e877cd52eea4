use Rattle.std.proofs.Common.{◌++◌}
use Rattle.flow_base.specs.LinesRead.{left_of}
use Rattle.journal_read.specs.Entries.{line_of, Head}
use Rattle.journal_whole.specs.declared.whole.JournalStop.TheVariants.{BadJournal, ReadFault}
use Rattle.journal_whole.proofs.Joining.{bad_head, bad_terms, break_head, break_terms, chain, same_stop}
use Rattle.journal_whole.proofs.heading.read_opening.Goals as goal

pub returns-in-Err-clause-bad : goal.returns-in-Err-clause-bad
returns-in-Err-clause-bad g c = λ line is.
    let bad = c.in-Err.ensures.bad line (same_stop c.in-Err.stop (BadJournal line) is) in
    bad_head (left_of g.S.Source.left c.args.source.now) (left_of g.S.Source.left c.read_head.new.source) line bad.0 bad.1

pub returns-in-Ok-clause-bad : goal.returns-in-Ok-clause-bad
returns-in-Ok-clause-bad g c = λ line is.
    let bad = c.read_terms.ensures.bad line is in
    bad_terms (left_of g.S.Source.left c.args.source.now) (left_of g.S.Source.left c.read_head.new.source) (left_of g.S.Source.left c.read_terms.new.source) line bad.0 c.in-Ok.ensures.head bad.1

pub returns-in-Ok-clause-front : goal.returns-in-Ok-clause-front
returns-in-Ok-clause-front g c = (
  line_of Head ++ c.read_terms.ensures.front.0,
  chain (left_of g.S.Source.left c.args.source.now) (left_of g.S.Source.left c.read_head.new.source) (left_of g.S.Source.left c.read_terms.new.source)
      (line_of Head) c.read_terms.ensures.front.0 c.in-Ok.ensures.head c.read_terms.ensures.front.1,
)

pub returns-in-Err-clause-broken : goal.returns-in-Err-clause-broken
returns-in-Err-clause-broken g c = λ is.
    break_head (left_of g.S.Source.left c.args.source.now) (left_of g.S.Source.left c.read_head.new.source) (c.in-Err.ensures.broken (same_stop c.in-Err.stop ReadFault is))

pub returns-in-Ok-clause-broken : goal.returns-in-Ok-clause-broken
returns-in-Ok-clause-broken g c = λ is.
    break_terms (left_of g.S.Source.left c.args.source.now) (left_of g.S.Source.left c.read_head.new.source) (left_of g.S.Source.left c.read_terms.new.source)
    c.in-Ok.ensures.head (c.read_terms.ensures.broken is)
