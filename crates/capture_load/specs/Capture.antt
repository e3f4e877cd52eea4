-- What a list of bytes is as a capture of either format: pcapng where it begins as such a capture does, and else libpcap's.
use Rattle.std.specs.Prelude.{◌≡◌, ◌⊎◌, ℕ, List, [], ◌∷◌, take}
use Rattle.pcap_read.specs.Capture.{CaptureOf as PcapCaptureOf, RefusesNext as PcapRefusesNext, Whole as PcapWhole, Refused as PcapRefused}
use Rattle.pcap_read.specs.Records.{Framed}
use Rattle.pcapng_read.specs.Capture.{NgCaptureOf, NgRefused, NgWhole, RefusesNext as NgRefusesNext}
use Rattle.capture_load.specs.declared.capture.Refusal.{Refusal}
use Rattle.capture_load.specs.declared.capture.Refusal.TheVariants.{Pcap, Ng}

-- the bytes with which a pcapng capture begins
abbrev pub ng_magic : List ℕ
ng_magic = 0x0a ∷ 0x0d ∷ 0x0d ∷ 0x0a ∷ []

-- the first four bytes stand, and are those
abbrev pub IsNg : List ℕ → Type 0
IsNg bytes = take 4 bytes ≡ ng_magic

-- this refusal stands behind these frames, and before the end of the next record or packet
abbrev pub RefusesNext : ℕ → List ℕ → List Framed → Refusal → Type 0
RefusesNext limit bytes frames (Pcap bad) = (IsNg bytes → ⊥) × PcapRefusesNext limit bytes frames bad
RefusesNext limit bytes frames (Ng bad) = IsNg bytes × NgRefusesNext limit bytes frames bad

-- what a whole input is: frames with the number of cut bytes behind them, or the one refusal
pub data Outcome : Type 0 where
  Whole : List Framed → ℕ → Outcome
  Refused : Refusal → Outcome

-- what the bytes are as a whole: frames with so many cut bytes behind them, or the one refusal, of either format
abbrev pub CaptureOf : ℕ → List ℕ → Outcome → Type 0
CaptureOf limit bytes (Whole frames cut) =
    (IsNg bytes × NgCaptureOf limit bytes (NgWhole frames cut)) ⊎ ((IsNg bytes → ⊥) × PcapCaptureOf limit bytes (PcapWhole frames cut))
CaptureOf limit bytes (Refused (Pcap bad)) = (IsNg bytes → ⊥) × PcapCaptureOf limit bytes (PcapRefused bad)
CaptureOf limit bytes (Refused (Ng bad)) = IsNg bytes × NgCaptureOf limit bytes (NgRefused bad)
