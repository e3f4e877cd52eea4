use Rattle.std.proofs.Common.{ℕ, inr, subst}
use Rattle.pcap_read.specs.Capture.{CaptureOf as PcapCaptureOf, Whole as PcapWhole, Refused as PcapRefused}
use Rattle.pcapng_read.specs.Capture.{NgCaptureOf, NgRefused}
use Rattle.capture_load.specs.Loads.{IsCounted, StandsIn}
use Rattle.capture_load.specs.declared.format.Format.{Format}
use Rattle.capture_load.specs.declared.format.Format.TheVariants.{Open, Pcap, Ng}
use Rattle.capture_load.proofs.Ends.{open_ends}
use Rattle.capture_load.proofs.Formats.{other_now}
use Rattle.capture_load.proofs.format.Format.end.Goals as goal

pub returns-in-Open : goal.returns-in-Open
returns-in-Open c = λ bytes frames stands.
    let stood : StandsIn (Open c.in-Open.matched) bytes frames = subst (λ (f : Format). StandsIn f bytes frames) c.in-Open.is stands in
    let counted : IsCounted (Open c.in-Open.matched) c.requires.0 = subst (λ (f : Format). IsCounted f c.requires.0) c.in-Open.is c.requires.1 in
    open_ends c.in-Open.matched bytes counted.0 stood.0

pub returns-in-Ok : goal.returns-in-Ok
returns-in-Ok c = λ bytes frames stands.
    let stood : StandsIn (Pcap c.in-Pcap.reader) bytes frames = subst (λ (f : Format). StandsIn f bytes frames) c.in-Pcap.is stands in
    let counted : IsCounted (Pcap c.in-Pcap.reader) c.requires.0 = subst (λ (f : Format). IsCounted f c.requires.0) c.in-Pcap.is c.requires.1 in
    inr (other_now bytes stood.0, subst (λ (n : ℕ). PcapCaptureOf n bytes (PcapWhole frames c.in-Ok.cut)) counted.0 (c.in-Ok.ensures.outcome bytes frames stood.1))

pub returns-in-Err : goal.returns-in-Err
returns-in-Err c = λ bytes frames stands.
    let stood : StandsIn (Pcap c.in-Pcap.reader) bytes frames = subst (λ (f : Format). StandsIn f bytes frames) c.in-Pcap.is stands in
    let counted : IsCounted (Pcap c.in-Pcap.reader) c.requires.0 = subst (λ (f : Format). IsCounted f c.requires.0) c.in-Pcap.is c.requires.1 in
    (other_now bytes stood.0, subst (λ (n : ℕ). PcapCaptureOf n bytes (PcapRefused c.in-Err.bad)) counted.0 (c.in-Err.ensures.outcome bytes frames stood.1))

pub returns-in-Err-end : goal.returns-in-Err-end
returns-in-Err-end c = λ bytes frames stands.
    let stood : StandsIn (Ng c.in-Ng.reader) bytes frames = subst (λ (f : Format). StandsIn f bytes frames) c.in-Ng.is stands in
    let counted : IsCounted (Ng c.in-Ng.reader) c.requires.0 = subst (λ (f : Format). IsCounted f c.requires.0) c.in-Ng.is c.requires.1 in
    (stood.0, subst (λ (n : ℕ). NgCaptureOf n bytes (NgRefused c.in-Err-end.bad)) counted.0 (c.in-Err-end.ensures.outcome bytes frames stood.1))
