-- What a run comes to, and the text that tells it.
use Rattle.std.specs.Prelude.{ℕ, Bool, true, false, List, [], ◌++◌}
use Rattle.hash_rows.specs.declared.options.Options.{Options}
use Rattle.capture_load.specs.declared.capture.Capture.{Capture}
use Rattle.push_history.specs.Journal.{Journal, journal_of_lists}
use Rattle.push_history.specs.LawfulJournal.{LawfulJournal}
use Rattle.octo_text.specs.Content.{AreComplete}
use Rattle.octo_text.specs.JournalText.{journal_text}
use Rattle.octo_text.specs.ReportText.{report_text}
use Rattle.reports.specs.ReportOf.{IsReport}
use Rattle.octo_run.specs.declared.results.Results.{Results}

-- the report is that of the capture by the options, and the journal is lawful for its packets
pub record HasResults (capture : Capture) (o : Options) (r : Results) : Type 0 where
  pub report_is : IsReport capture.packets.items capture.records capture.skipped capture.cut o r.report
  pub journal_is : LawfulJournal capture.packets.items o (journal_of_lists o r.lists)

-- the journal tells of each worker and each answer as the options ask
abbrev pub IsComplete : Options → Results → Type 0
IsComplete o r = AreComplete o r.lists

-- the journal's text, where it is asked for
abbrev pub asked_text : Bool → Journal → List ℕ
asked_text true j = journal_text j
asked_text false j = []

-- the report, and the journal behind it where the options ask for it
unfoldable pub results_text : Options → Results → List ℕ
results_text o r = report_text r.report ++ asked_text o.journal (journal_of_lists o r.lists)
