-- The text of the command `prefix`.
use Rattle.std.specs.Prelude.{◌≡◌, ℕ, List, length}
use Rattle.capture_load.specs.Capture.{CaptureOf, Whole}
use Rattle.capture_load.specs.Packets.{packets_of, tallies_of}
use Rattle.pcap_read.specs.Records.{Framed}
use Rattle.hash_rows.specs.Limits.{most_records}
use Rattle.hash_rows.specs.declared.options.Options.{Options}
use Rattle.prefixes.specs.declared.network.Prefix.{Prefix}
use Rattle.prefix_report.specs.PrefixText.{report_text}
use Rattle.prefix_report.specs.Reports.{IsPrefixReport}
use Rattle.prefix_report.specs.declared.report.PrefixReport.{PrefixReport}

-- the bytes are a capture of these frames, and the text is the report of their source networks, by the options and with the watched ones
pub record IsPrefixText (o : Options) (watch : List Prefix) (bytes text : List ℕ) : Type 0 where
  pub frames : List Framed
  pub cut : ℕ
  pub whole : CaptureOf most_records bytes (Whole frames cut)
  pub report : PrefixReport
  pub report_is : IsPrefixReport (packets_of o.amount frames) (length frames) (tallies_of frames) cut o watch report
  pub text_is : text ≡ report_text report
