-- The text of a run.
use Rattle.std.proofs.Common.{◌≡◌, refl, sym, ap, subst, Bool, true, false, List, ℕ}
use Rattle.hash_rows.specs.declared.options.Mode.{Mode}
use Rattle.hash_rows.specs.declared.options.Mode.TheVariants.{Rounds}
use Rattle.hash_rows.specs.declared.options.Options.{Options}
use Rattle.hash_rows.specs.declared.shape.Packet.{Packet}
use Rattle.capture_load.specs.Loads.{IsLoaded}
use Rattle.capture_load.specs.declared.capture.Capture.{Capture}
use Rattle.push_history.specs.Journal.{Journal, journal_of as journal_by, journal_of_lists}
use Rattle.push_history.specs.LawfulJournal.{IsJournalIn, LawfulJournal}
use Rattle.push_history.specs.Rounds.{IsRoundsJournal}
use Rattle.octo_text.specs.ReportText.{report_text}
use Rattle.octo_run.specs.Results.{HasResults, asked_text, results_text}
use Rattle.octo_run.specs.Networks.{IsPrefixText}
use Rattle.octo_run.specs.Runs.{IsJournalText, IsRunText}
use Rattle.prefixes.specs.declared.network.Prefix.{Prefix}
use Rattle.prefix_report.specs.PrefixText.{report_text as prefix_report_text}
use Rattle.prefix_report.specs.Reports.{IsPrefixReport}
use Rattle.prefix_report.specs.declared.report.PrefixReport.{PrefixReport}
use Rattle.octo_run.specs.declared.results.Results.{Results}

-- the journal of the rounds is lawful
pub rounds_lawful : (packets : List Packet) (o : Options) (j : Journal) → o.mode ≡ Rounds → IsRoundsJournal packets o j → LawfulJournal packets o j
unfolding journal_by
rounds_lawful packets o j is rounds = record {
  options = ap (λ (k : Journal). k.options) rounds.journal;
  by_mode = subst (λ (m : Mode). IsJournalIn m packets o j) (sym is) rounds;
}

asked : (b : Bool) (packets : List Packet) (o : Options) (j : Journal) → LawfulJournal packets o j → IsJournalText b o packets (asked_text b j)
asked true packets o j lawful = (j, lawful, refl)
asked false packets o j lawful = refl

-- the results of a loaded capture have the text of its bytes' run
pub run_text : (o : Options) (bytes : List ℕ) (capture : Capture) (r : Results) → IsLoaded o.amount bytes capture → HasResults capture o r
    → IsRunText o bytes (results_text o r)
unfolding results_text
run_text o bytes capture r loaded results = record {
  frames = loaded.frames;
  cut = capture.cut;
  whole = loaded.whole;
  report = report_text r.report;
  report_is = record {
    report = r.report;
    report_is = rw (loaded.packets, loaded.records, loaded.skipped) at results.report_is;
    text_is = refl;
  };
  journal = asked_text o.journal (journal_of_lists o r.lists);
  journal_is = asked o.journal _ o (journal_of_lists o r.lists) (rw (loaded.packets) at results.journal_is);
  text_is = refl;
}

-- the report of a loaded capture's networks has the text of its bytes'
pub prefix_text : (o : Options) (watch : List Prefix) (bytes : List ℕ) (capture : Capture) (r : PrefixReport) → IsLoaded o.amount bytes capture
    → IsPrefixReport capture.packets.items capture.records capture.skipped capture.cut o watch r → IsPrefixText o watch bytes (prefix_report_text r)
prefix_text o watch bytes capture r loaded report = record {
  frames = loaded.frames;
  cut = capture.cut;
  whole = loaded.whole;
  report = r;
  report_is = rw (loaded.packets, loaded.records, loaded.skipped) at report;
  text_is = refl;
}
