-- The text of the command `epochs`.
use Rattle.std.specs.Prelude.{◌≡◌, ℕ, List, length}
use Rattle.capture_load.specs.Capture.{CaptureOf, Whole}
use Rattle.capture_load.specs.Packets.{packets_of, tallies_of}
use Rattle.pcap_read.specs.Records.{Framed}
use Rattle.hash_rows.specs.Limits.{most_records}
use Rattle.hash_rows.specs.declared.options.Options.{Options}
use Rattle.epoch_report.specs.EpochsText.{report_text}
use Rattle.epoch_report.specs.Reports.{IsEpochReport}
use Rattle.epoch_report.specs.declared.report.EpochReport.{EpochReport}

-- the bytes are a capture of these frames, and the text is the report of its epochs of so many packets, with this least change and by the
-- options
pub record IsEpochsText (size change : ℕ) (o : Options) (bytes text : List ℕ) : Type 0 where
  pub frames : List Framed
  pub cut : ℕ
  pub whole : CaptureOf most_records bytes (Whole frames cut)
  pub report : EpochReport
  pub report_is : IsEpochReport (packets_of o.amount frames) (length frames) (tallies_of frames) cut size change o report
  pub text_is : text ≡ report_text report
