-- A run in rounds has one text.
use Rattle.std.proofs.Common.{◌≡◌, ◌∙◌, refl, sym, ap, ap₂, subst, ℕ, Bool, true, false, List, length, ◌++◌}
use Rattle.capture_load.specs.Capture.{CaptureOf, Whole}
use Rattle.pcap_read.specs.Records.{Framed}
use Rattle.hash_rows.specs.Limits.{most_records}
use Rattle.capture_load.proofs.Once.{one_outcome}
use Rattle.capture_load.specs.Packets.{packets_of, tallies_of}
use Rattle.hash_rows.specs.declared.options.Mode.{Mode}
use Rattle.hash_rows.specs.declared.options.Mode.TheVariants.{Rounds}
use Rattle.hash_rows.specs.declared.options.Options.{Options}
use Rattle.hash_rows.specs.declared.shape.Packet.{Packet}
use Rattle.push_history.specs.Journal.{Journal}
use Rattle.push_history.specs.LawfulJournal.{IsJournalIn, LawfulJournal}
use Rattle.push_history.specs.Rounds.{IsRoundsJournal}
use Rattle.octo_text.specs.JournalText.{journal_text}
use Rattle.octo_engine.proofs.OneSchedule.{one_journal}
use Rattle.reports.specs.ReportOf.{AskForOneReport, IsReport}
use Rattle.reports.proofs.OneReport.{one_report as one_content}
use Rattle.octo_run.specs.Runs.{IsJournalText, IsReportText, IsRunText}

-- the journals of one run in rounds
in_rounds : (packets : List Packet) (o : Options) (j : Journal) → o.mode ≡ Rounds → LawfulJournal packets o j → IsRoundsJournal packets o j
in_rounds packets o j is lawful = subst (λ (m : Mode). IsJournalIn m packets o j) is lawful.by_mode

one_journal_text : (b : Bool) (packets : List Packet) (o : Options) (s t : List ℕ) → o.mode ≡ Rounds → IsJournalText b o packets s → IsJournalText b o packets t → s ≡ t
one_journal_text false packets o s t is x y = x ∙ sym y
one_journal_text true packets o s t is x y =
    x.2 ∙ ap journal_text (one_journal packets o x.0 y.0 (in_rounds packets o x.0 is x.1) (in_rounds packets o y.0 is y.1)) ∙ sym y.2

-- the report's text
one_report_text : (o p : Options) (frames : List Framed) (cut : ℕ) (s t : List ℕ) → AskForOneReport o p → IsReportText o frames cut s → IsReportText p frames cut t → s ≡ t
one_report_text o p frames cut s t ask x y =
    let report = subst (λ amount. IsReport (packets_of amount frames) (length frames) (tallies_of frames) cut p y.report) (sym ask.amount) y.report_is in
    x.text_is ∙ one_content _ _ _ cut o p x.report y.report ask x.report_is report ∙ sym y.text_is

-- the frames and the cut bytes
pub one_capture : (bytes : List ℕ) (fs gs : List Framed) (c d : ℕ) → CaptureOf most_records bytes (Whole fs c) → CaptureOf most_records bytes (Whole gs d) → (fs ≡ gs) × (c ≡ d)
one_capture bytes fs gs c d x y =
    let same : Whole fs c ≡ Whole gs d = one_outcome most_records bytes (Whole fs c) (Whole gs d) x y in (cc, cc)

pub one_report : (o p : Options) (bytes s t : List ℕ) → AskForOneReport o p → (a : IsRunText o bytes s) → (b : IsRunText p bytes t) → a.report ≡ b.report
one_report o p bytes s t ask a b =
    let same = one_capture bytes a.frames b.frames a.cut b.cut a.whole b.whole in
    let report = subst (λ (fs : List Framed). IsReportText p fs a.cut b.report) (sym same.0) (subst (λ (c : ℕ). IsReportText p b.frames c b.report) (sym same.1) b.report_is) in
    one_report_text o p a.frames a.cut a.report b.report ask a.report_is report

pub one_text : (o : Options) (bytes s t : List ℕ) → o.mode ≡ Rounds → IsRunText o bytes s → IsRunText o bytes t → s ≡ t
one_text o bytes s t is a b =
    let report = one_report o o bytes s t (record { sketch = refl; shape = refl; amount = refl; watch = refl; heavy = refl; least = refl }) a b in
    let same = one_capture bytes a.frames b.frames a.cut b.cut a.whole b.whole in
    let told = subst (λ (fs : List Framed). IsJournalText o.journal o (packets_of o.amount fs) b.journal) (sym same.0) b.journal_is in
    let journal = one_journal_text o.journal _ o a.journal b.journal is a.journal_is told in
    a.text_is ∙ ap₂ (λ (x y : List ℕ). x ++ y) report journal ∙ sym b.text_is
