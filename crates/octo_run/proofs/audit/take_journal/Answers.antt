use Rattle.std.proofs.Common.{ap}
use Rattle.std.specs.Prelude.{Result, Err}
use Rattle.flow_base.specs.LinesRead.{left_of}
use Rattle.octo_text.specs.declared.journal.Journal.{Journal}
use Rattle.journal_whole.specs.declared.whole.JournalStop.{JournalStop}
use Rattle.octo_run.proofs.Audited.{bad_given, broke_given, told_asked, took_asked}
use Rattle.octo_run.proofs.Reasons.{unrefused_broken}
use Rattle.octo_run.proofs.audit.take_journal.Goals as goal

pub returns-in-Err-ReadFault-clause-reason : goal.returns-in-Err-ReadFault-clause-reason
returns-in-Err-ReadFault-clause-reason g c = λ out out'.
    let f : JournalStop → Result Journal JournalStop = λ s. Err s in
    let by = c.in-Err-ReadFault.ensures in
    let is = ap f c.in-Err-ReadFault.field-0-is in (
      by.read is,
      (λ given rest told left.
          unrefused_broken given rest
          (broke_given (g.S.Source.left c.args.source.now.source.now) (g.S.Source.left c.read_journal.new.source.source.now) c.args.source.now.window c.read_journal.new.source.window
          c.requires (by.drained is) (by.broken is) given rest told left)),
    )

pub returns-in-Err-BadJournal-clause-reason : goal.returns-in-Err-BadJournal-clause-reason
returns-in-Err-BadJournal-clause-reason g c = λ out out'.
    let f : JournalStop → Result Journal JournalStop = λ s. Err s in (
      tt,
      (λ given rest told left.
          bad_given (g.S.Source.left c.args.source.now.source.now) (g.S.Source.left c.read_journal.new.source.source.now) c.args.source.now.window c.read_journal.new.source.window
          c.requires c.in-Err-BadJournal.line (c.in-Err-BadJournal.ensures.bad c.in-Err-BadJournal.line (ap f c.in-Err-BadJournal.field-0-is)) given rest told left),
    )

pub returns-in-Ok-clause-asked : goal.returns-in-Ok-clause-asked
returns-in-Ok-clause-asked g c = told_asked c.in-Ok.journal

pub returns-in-Ok-clause-journal : goal.returns-in-Ok-clause-journal
returns-in-Ok-clause-journal g c =
    took_asked (g.S.Source.left c.args.source.now.source.now) (left_of g.S.Source.left c.read_journal.new.source) c.args.source.now.window c.in-Ok.journal c.requires c.in-Ok.ensures.journal
