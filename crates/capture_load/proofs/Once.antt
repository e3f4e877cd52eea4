-- A list of bytes is a capture, or refused, in one way only.
use Rattle.std.proofs.Common.{◌≡◌, ◌≤◌, ℕ, List, ◌++◌, length, take, Bool, true, false, nat_lt, Some, None, inl, inr, refl, sym, ◌∙◌, arith, length-take}
use Rattle.pcap_read.specs.Header.{header_refusal}
use Rattle.pcap_read.specs.Capture.{RefusesNext as PcapRefusesNext, Whole as PcapWhole, Refused as PcapRefused}
use Rattle.pcap_read.specs.Records.{Framed}
use Rattle.pcap_read.specs.declared.bad.Bad.{Bad}
use Rattle.pcap_read.proofs.Once.{one_outcome as pcap_outcome, capture_fine as pcap_fine}
use Rattle.pcap_read.proofs.Steps.{refusal_stays as pcap_stays}
use Rattle.pcapng_read.specs.Capture.{NgRefused, NgWhole}
use Rattle.pcapng_read.proofs.Blocks.{refusal_stays as ng_refusal_stays}
use Rattle.pcapng_read.proofs.Once.{one_outcome as ng_outcome, capture_fine as ng_fine}
use Rattle.capture_load.specs.Capture.{CaptureOf, Outcome, RefusesNext, Refused, Whole}
use Rattle.capture_load.specs.declared.capture.Refusal.{Refusal}
use Rattle.capture_load.specs.declared.capture.Refusal.TheVariants.{Pcap, Ng}
use Rattle.capture_load.proofs.Formats.{ng_stays, same_front}

-- what is refused before the end of input has four bytes at least
front_long : (bytes : List ℕ) (bad : Bad) → header_refusal (take 24 bytes) ≡ Some bad → 4 ≤ length bytes
unfolding header_refusal
front_long bytes bad refused = by (nat_lt (length (take 24 bytes)) 4) refl
  where
    by : (b : Bool) → nat_lt (length (take 24 bytes)) 4 ≡ b → 4 ≤ length bytes
    by true short = let none : None ≡ Some bad = rw (short) at refused in absurd (cc)
    by false long = let some : 4 ≤ length (take 24 bytes) = grind arith in omega (arith, some, length-take 24 bytes)

refused_long : (limit : ℕ) (bytes : List ℕ) (frames : List Framed) (bad : Bad) → PcapRefusesNext limit bytes frames bad → 4 ≤ length bytes
refused_long limit bytes frames bad (inl front) = front_long bytes bad front.1
refused_long limit bytes frames bad (inr r) = omega (arith, r.4.header.long)

-- a refusal of a list is that of each longer list
pub refusal_stays : (limit : ℕ) (bytes more : List ℕ) (frames : List Framed) (refusal : Refusal) → RefusesNext limit bytes frames refusal → RefusesNext limit (bytes ++ more) frames refusal
refusal_stays limit bytes more frames (Pcap bad) r = (
  (λ is. r.0 (sym (same_front bytes more (refused_long limit bytes frames bad r.1)) ∙ is)),
  pcap_stays limit bytes more frames bad r.1,
)
refusal_stays limit bytes more frames (Ng bad) r = (ng_stays bytes more r.0, ng_refusal_stays limit bytes more frames bad r.1)

-- an input has one outcome at most
pub one_outcome : (limit : ℕ) (bytes : List ℕ) (a b : Outcome) → CaptureOf limit bytes a → CaptureOf limit bytes b → a ≡ b
one_outcome limit bytes (Whole fs n) (Whole gs m) (inl a) (inl b) = let e : NgWhole fs n ≡ NgWhole gs m = ng_outcome limit bytes (NgWhole fs n) (NgWhole gs m) a.1 b.1 in cc
one_outcome limit bytes (Whole fs n) (Whole gs m) (inl a) (inr b) = absurd (b.0 a.0)
one_outcome limit bytes (Whole fs n) (Whole gs m) (inr a) (inl b) = absurd (a.0 b.0)
one_outcome limit bytes (Whole fs n) (Whole gs m) (inr a) (inr b) = let e : PcapWhole fs n ≡ PcapWhole gs m = pcap_outcome limit bytes (PcapWhole fs n) (PcapWhole gs m) a.1 b.1 in cc
one_outcome limit bytes (Whole fs n) (Refused (Pcap q)) (inl a) b = absurd (b.0 a.0)
one_outcome limit bytes (Whole fs n) (Refused (Pcap q)) (inr a) b = let e : PcapWhole fs n ≡ PcapRefused q = pcap_outcome limit bytes (PcapWhole fs n) (PcapRefused q) a.1 b.1 in absurd (cc)
one_outcome limit bytes (Whole fs n) (Refused (Ng q)) (inl a) b = let e : NgWhole fs n ≡ NgRefused q = ng_outcome limit bytes (NgWhole fs n) (NgRefused q) a.1 b.1 in absurd (cc)
one_outcome limit bytes (Whole fs n) (Refused (Ng q)) (inr a) b = absurd (a.0 b.0)
one_outcome limit bytes (Refused (Pcap p)) (Whole gs m) a (inl b) = absurd (a.0 b.0)
one_outcome limit bytes (Refused (Pcap p)) (Whole gs m) a (inr b) = let e : PcapRefused p ≡ PcapWhole gs m = pcap_outcome limit bytes (PcapRefused p) (PcapWhole gs m) a.1 b.1 in absurd (cc)
one_outcome limit bytes (Refused (Ng p)) (Whole gs m) a (inl b) = let e : NgRefused p ≡ NgWhole gs m = ng_outcome limit bytes (NgRefused p) (NgWhole gs m) a.1 b.1 in absurd (cc)
one_outcome limit bytes (Refused (Ng p)) (Whole gs m) a (inr b) = absurd (b.0 a.0)
one_outcome limit bytes (Refused (Pcap p)) (Refused (Pcap q)) a b = let e : PcapRefused p ≡ PcapRefused q = pcap_outcome limit bytes (PcapRefused p) (PcapRefused q) a.1 b.1 in cc
one_outcome limit bytes (Refused (Pcap p)) (Refused (Ng q)) a b = absurd (a.0 b.0)
one_outcome limit bytes (Refused (Ng p)) (Refused (Pcap q)) a b = absurd (b.0 a.0)
one_outcome limit bytes (Refused (Ng p)) (Refused (Ng q)) a b = let e : NgRefused p ≡ NgRefused q = ng_outcome limit bytes (NgRefused p) (NgRefused q) a.1 b.1 in cc

-- a capture isn't refused
pub capture_fine : (limit : ℕ) (bytes : List ℕ) (frames others : List Framed) (cut : ℕ) (refusal : Refusal) → CaptureOf limit bytes (Whole frames cut) → RefusesNext limit bytes others refusal → ⊥
capture_fine limit bytes frames others cut (Pcap bad) (inl a) r = r.0 a.0
capture_fine limit bytes frames others cut (Pcap bad) (inr a) r = pcap_fine limit bytes frames others a.1.0 bad a.1.1 r.1
capture_fine limit bytes frames others cut (Ng bad) (inl a) r = ng_fine limit bytes frames others a.1.0 bad a.1.1 r.1
capture_fine limit bytes frames others cut (Ng bad) (inr a) r = a.0 r.0
