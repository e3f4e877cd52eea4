-- What the audit of a run in rounds comes to.
use Rattle.std.specs.Prelude.{List}
use Rattle.hash_rows.specs.declared.options.Options.{Options}
use Rattle.hash_rows.specs.declared.shape.Packet.{Packet}
use Rattle.push_history.specs.Journal.{Journal}
use Rattle.push_history.specs.Rounds.{IsRoundsJournal}
use Rattle.octo_text.specs.JournalText.{journal_text}
use Rattle.rounds_audit.specs.declared.verdict.Verdict.{Verdict}
use Rattle.rounds_audit.specs.Differences.{IsTextVerdict}

-- it compares the text of the journal that was kept with that of the journal of the round schedule
pub record IsRoundsVerdict (packets : List Packet) (o : Options) (kept : Journal) (verdict : Verdict) : Type 0 where
  pub journal : Journal
  pub lawful : IsRoundsJournal packets o journal
  pub told : IsTextVerdict (journal_text kept) (journal_text journal) verdict
