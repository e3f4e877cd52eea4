use Rattle.std.proofs.Common.{◌∙◌, ◌++◌, refl, arith}
use Rattle.std.specs.List.{flat_map}
use Rattle.flow_base.specs.LinesRead.{left_of}
use Rattle.journal_read.specs.Entries.{line_of}
use Rattle.journal_whole.specs.Drafted.{draft_of}
use Rattle.journal_whole.specs.declared.whole.JournalStop.TheVariants.{ReadFault}
use Rattle.journal_whole.proofs.Joining.{chain, same_line, same_stop, still_going}
use Rattle.journal_whole.proofs.Weights.{entry_grows, entry_proper, went_none, went_more, weight_most}
use Rattle.journal_whole.proofs.lists.read_lists.Goals as goal

pub lines-init : goal.lines-init
lines-init g c = (refl, c.requires.rooms, c.requires.proper, went_none (draft_of c.args.reading.now) (left_of g.S.Source.left c.args.source.now), omega arith)

pub returns-in-Err-clause-front : goal.returns-in-Err-clause-front
returns-in-Err-clause-front g c = (
  flat_map line_of c.lines.invariant.3.took.entries ++ c.read_entry.ensures.front.0,
  chain (left_of g.S.Source.left c.args.source.now) (left_of g.S.Source.left c.lines.source) (left_of g.S.Source.left c.read_entry.new.source)
      (flat_map line_of c.lines.invariant.3.took.entries) c.read_entry.ensures.front.0 c.lines.invariant.3.took.taken c.read_entry.ensures.front.1,
)

pub returns-in-Ok-false-clause-bad : goal.returns-in-Ok-false-clause-bad
returns-in-Ok-false-clause-bad g c = λ line is.
    let same = same_line c.lines.line line is in record {
      after = draft_of c.lines.reading;
      middle = left_of g.S.Source.left c.lines.source;
      front = c.lines.invariant.3.took;
      going = still_going c.lines.reading.place (c.is_complete.ensures.no c.lines-test.true);
      number = omega (arith, same, c.lines.invariant.3.number);
      other = c.in-Ok-false.ensures.none c.in-Ok-false.field-0-test;
    }

pub returns-in-Ok-false-clause-front : goal.returns-in-Ok-false-clause-front
returns-in-Ok-false-clause-front g c = (
  flat_map line_of c.lines.invariant.3.took.entries ++ c.read_entry.ensures.front.0,
  chain (left_of g.S.Source.left c.args.source.now) (left_of g.S.Source.left c.lines.source) (left_of g.S.Source.left c.read_entry.new.source)
      (flat_map line_of c.lines.invariant.3.took.entries) c.read_entry.ensures.front.0 c.lines.invariant.3.took.taken c.read_entry.ensures.front.1,
)

pub lines-smaller : goal.lines-smaller
lines-smaller g c =
    let step = c.in-Ok-true.ensures.entry c.in-Ok-true.field-0-test in
    let grows = entry_grows (draft_of c.lines.reading) (draft_of c.read_entry.new.reading) (left_of g.S.Source.left c.lines.source) (left_of g.S.Source.left c.read_entry.new.source) c.lines.invariant.2 step in
    let proper = entry_proper (draft_of c.lines.reading) (draft_of c.read_entry.new.reading) (left_of g.S.Source.left c.lines.source) (left_of g.S.Source.left c.read_entry.new.source) c.lines.invariant.2 step in
    let most = weight_most (draft_of c.read_entry.new.reading) proper in
    omega (arith, grows, most)

pub lines-preserved : goal.lines-preserved
lines-preserved g c =
    let step = c.in-Ok-true.ensures.entry c.in-Ok-true.field-0-test in (
      c.read_entry.ensures.same_reference ∙ c.lines.invariant.0,
      c.in-Ok-true.ensures.rooms,
      entry_proper (draft_of c.lines.reading) (draft_of c.read_entry.new.reading) (left_of g.S.Source.left c.lines.source) (left_of g.S.Source.left c.read_entry.new.source) c.lines.invariant.2 step,
      went_more (draft_of c.args.reading.now) (draft_of c.lines.reading) (draft_of c.read_entry.new.reading) (left_of g.S.Source.left c.args.source.now) (left_of g.S.Source.left c.lines.source) (left_of g.S.Source.left c.read_entry.new.source) c.lines.line
          c.lines.invariant.2 c.lines.invariant.3 step,
      omega (arith, c.lines.invariant.4, c.read_entry.ensures.later),
    )

pub returns-in-Err-clause-broken : goal.returns-in-Err-clause-broken
returns-in-Err-clause-broken g c = λ is. record {
  after = draft_of c.lines.reading;
  middle = left_of g.S.Source.left c.lines.source;
  front = c.lines.invariant.3.took;
  going = still_going c.lines.reading.place (c.is_complete.ensures.no c.lines-test.true);
  broke = c.in-Err.ensures.broken (same_stop c.in-Err.stop ReadFault is);
}
