-- What two texts of a capture's epochs tell.
use Rattle.std.proofs.Common.{◌≡◌, ℕ, sym, subst, List, length}
use Rattle.capture_load.specs.Packets.{packets_of, tallies_of}
use Rattle.pcap_read.specs.Records.{Framed}
use Rattle.hash_rows.specs.declared.options.Amount.{Amount}
use Rattle.hash_rows.specs.declared.options.Options.{Options}
use Rattle.epoch_report.specs.Reports.{IsEpochReport}
use Rattle.octo_run.specs.Epochs.{IsEpochsText}
use Rattle.octo_run.proofs.OneText.{one_capture}

-- the second one's report is of the packets of the first
pub same_capture : (size change : ℕ) (o p : Options) (bytes s t : List ℕ) → o.amount ≡ p.amount
    → (a : IsEpochsText size change o bytes s) → (b : IsEpochsText size change p bytes t)
    → IsEpochReport (packets_of o.amount a.frames) (length a.frames) (tallies_of a.frames) a.cut size change p b.report
same_capture size change o p bytes s t amounts a b =
    let same = one_capture bytes a.frames b.frames a.cut b.cut a.whole b.whole in
    let cut = subst (λ (c : ℕ). IsEpochReport (packets_of p.amount b.frames) (length b.frames) (tallies_of b.frames) c size change p b.report) (sym same.1) b.report_is in
    let frames = subst (λ (fs : List Framed). IsEpochReport (packets_of p.amount fs) (length fs) (tallies_of fs) a.cut size change p b.report) (sym same.0) cut in
    subst (λ (amount : Amount). IsEpochReport (packets_of amount a.frames) (length a.frames) (tallies_of a.frames) a.cut size change p b.report) (sym amounts) frames
