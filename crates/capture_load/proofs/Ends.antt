-- What the end of input says of all the bytes that were given.
use Rattle.std.proofs.Common.{◌≡◌, ◌<◌, ℕ, List, [], ◌++◌, take, sym, ap, ◌∙◌, subst, inl, inr}
use Rattle.std.specs.Prelude.{Option, Some, None, Result, Ok, Err, OnOk, IfOk, IsErrOf, MatchResult}
use Rattle.flow_base.specs.Flow.{behind, Given}
use Rattle.pcap_read.specs.Records.{Framed}
use Rattle.pcap_read.specs.declared.bad.Bad.{Bad}
use Rattle.pcap_read.specs.declared.bad.Bad.TheVariants.{ShortHeader}
use Rattle.pcap_read.proofs.Exact.{stood_fine as pcap_stood}
use Rattle.pcap_read.proofs.Once.{short_fine}
use Rattle.pcapng_read.specs.declared.bad.NgBad.{NgBad}
use Rattle.pcapng_read.proofs.Exact.{stood_fine as ng_stood}
use Rattle.pcap_read.specs.Capture.{RefusesNext as PcapRefusesNext}
use Rattle.pcapng_read.specs.Capture.{RefusesNext as NgRefusesNext}
use Rattle.hash_rows.specs.declared.options.Amount.{Amount}
use Rattle.capture_load.specs.Capture.{CaptureOf, IsNg, RefusesNext, Refused, Whole, ng_magic}
use Rattle.capture_load.specs.Loads.{EndsIn, HoldsRefusal, IsCounted, IsLoaded, StandsIn, StopsIn}
use Rattle.capture_load.specs.declared.capture.Capture.{Capture}
use Rattle.capture_load.specs.declared.capture.Refusal.{Refusal}
use Rattle.capture_load.specs.declared.capture.Refusal.TheVariants.{Pcap as PcapRefusal, Ng as NgRefusal}
use Rattle.capture_load.specs.declared.capture.LoadStop.{LoadStop}
use Rattle.capture_load.specs.declared.capture.LoadStop.TheVariants.{Bad as BadStop, Ng as NgStop}
use Rattle.capture_load.specs.declared.format.Format.{Format}
use Rattle.capture_load.specs.declared.format.Format.TheVariants.{Open, Pcap, Ng}
use Rattle.capture_load.proofs.Formats.{open_long, open_not_ng, open_short, other_now}
use Rattle.capture_load.proofs.Once.{capture_fine, one_outcome}
use Rattle.flow_base.proofs.FlowLemmas.{given_is}
use Rattle.hash_rows.specs.Limits.{most_records}

-- where the input ends before four bytes
pub open_ends : (k : ℕ) (bytes : List ℕ) → k < 4 → bytes ≡ take k ng_magic → CaptureOf most_records bytes (Refused (PcapRefusal (ShortHeader k)))
open_ends k bytes few is =
    subst (λ (b : List ℕ). CaptureOf most_records b (Refused (PcapRefusal (ShortHeader k)))) (sym is)
    (open_not_ng k few, inr (open_short k few, ap ShortHeader (sym (open_long k few))))

-- where loading goes on nothing was refused
pub stood_fine : (format : Format) (bytes : List ℕ) (frames others : List Framed) (number : ℕ) (refusal : Refusal) → IsCounted format number → StandsIn format bytes frames
    → RefusesNext most_records bytes others refusal → ⊥
stood_fine (Open k) bytes frames others number (PcapRefusal bad) counted stands r =
    short_fine most_records (take k ng_magic) others bad (open_short k counted.0) (subst (λ (b : List ℕ). PcapRefusesNext most_records b others bad) stands.0 r.1)
stood_fine (Open k) bytes frames others number (NgRefusal bad) counted stands r = open_not_ng k counted.0 (subst IsNg stands.0 r.0)
stood_fine (Pcap reader) bytes frames others number (PcapRefusal bad) counted stands r =
    pcap_stood reader bytes frames others bad stands.1 (subst (λ (n : ℕ). PcapRefusesNext n bytes others bad) (sym counted.0) r.1)
stood_fine (Pcap reader) bytes frames others number (NgRefusal bad) counted stands r = other_now bytes stands.0 r.0
stood_fine (Ng reader) bytes frames others number (PcapRefusal bad) counted stands r = r.0 stands.0
stood_fine (Ng reader) bytes frames others number (NgRefusal bad) counted stands r =
    ng_stood reader bytes frames others bad stands.1 (subst (λ (n : ℕ). NgRefusesNext n bytes others bad) (sym counted.0) r.1)

-- a capture holds no refusal
pub capture_excludes : (bytes : List ℕ) (frames : List Framed) (cut : ℕ) (rest : List ℕ) (refusal : Refusal) → CaptureOf most_records bytes (Whole frames cut) → HoldsRefusal bytes rest refusal → ⊥
capture_excludes bytes frames cut rest refusal whole (inl stood) = capture_fine most_records bytes frames stood.0 cut refusal whole stood.1
capture_excludes bytes frames cut rest refusal whole (inr ended) =
    let e : Whole frames cut ≡ Refused refusal = one_outcome most_records bytes (Whole frames cut) (Refused refusal) whole ended.1 in absurd (cc)

pub stop_of : (a b : LoadStop) → IsErrOf {T = Capture} (Err a) b → a ≡ b
stop_of a b is = let e : ◌≡◌ {A = Result Capture LoadStop} (Err a) (Err b) = is in cc

module _ (old new : Option (List ℕ)) (bytes : List ℕ) (amount : Amount) (told : old ≡ behind bytes new) where
  pub ends_fine : (r : Result Capture LoadStop) → MatchResult r (IsLoaded amount bytes) (EndsIn bytes)
      → OnOk r ((refusal : Refusal) → Given old new (λ given rest. HoldsRefusal given rest refusal → ⊥))
  ends_fine (Ok capture) loaded = λ refusal given rest was left holds.
      let same : bytes ≡ given = given_is old new bytes given rest told was left in
      capture_excludes bytes loaded.frames capture.cut rest refusal loaded.whole (subst (λ (b : List ℕ). HoldsRefusal b rest refusal) (sym same) holds)
  ends_fine (Err stop) ends = tt

  pub ends_whole : (none : (rest : List ℕ) → new ≡ Some rest → rest ≡ []) (r : Result Capture LoadStop) → MatchResult r (IsLoaded amount bytes) (EndsIn bytes)
      → IfOk r (λ capture. Given old new (λ given rest. (rest ≡ []) × IsLoaded amount given capture))
  ends_whole none (Ok capture) loaded = λ given rest was left.
      (none rest left, subst (λ (b : List ℕ). IsLoaded amount b capture) (given_is old new bytes given rest told was left) loaded)
  ends_whole none (Err stop) ends = tt

  pub ends_bad : (none : (rest : List ℕ) → new ≡ Some rest → rest ≡ []) (r : Result Capture LoadStop) → MatchResult r (IsLoaded amount bytes) (EndsIn bytes)
      → (bad : Bad) → IsErrOf r (BadStop bad) → Given old new (λ given rest. HoldsRefusal given rest (PcapRefusal bad))
  ends_bad none (Ok capture) loaded bad is = absurd (let e : Ok capture ≡ Err (BadStop bad) = is in cc)
  ends_bad none (Err stop) ends bad is = λ given rest was left.
      let refused : CaptureOf most_records bytes (Refused (PcapRefusal bad)) = subst (EndsIn bytes) (stop_of stop (BadStop bad) is) ends in
      inr (none rest left, subst (λ (b : List ℕ). CaptureOf most_records b (Refused (PcapRefusal bad))) (given_is old new bytes given rest told was left) refused)

  pub ends_ng : (none : (rest : List ℕ) → new ≡ Some rest → rest ≡ []) (r : Result Capture LoadStop) → MatchResult r (IsLoaded amount bytes) (EndsIn bytes)
      → (bad : NgBad) → IsErrOf r (NgStop bad) → Given old new (λ given rest. HoldsRefusal given rest (NgRefusal bad))
  ends_ng none (Ok capture) loaded bad is = absurd (let e : Ok capture ≡ Err (NgStop bad) = is in cc)
  ends_ng none (Err stop) ends bad is = λ given rest was left.
      let refused : CaptureOf most_records bytes (Refused (NgRefusal bad)) = subst (EndsIn bytes) (stop_of stop (NgStop bad) is) ends in
      inr (none rest left, subst (λ (b : List ℕ). CaptureOf most_records b (Refused (NgRefusal bad))) (given_is old new bytes given rest told was left) refused)

  -- a refusal that stands in the bytes that were given
  pub stops_bad : (stop : LoadStop) → StopsIn bytes stop → (bad : Bad) → IsErrOf {T = Capture} (Err stop) (BadStop bad) → Given old new (λ given rest. HoldsRefusal given rest (PcapRefusal bad))
  stops_bad stop stops bad is = λ given rest was left.
      let here : StopsIn bytes (BadStop bad) = subst (StopsIn bytes) (stop_of stop (BadStop bad) is) stops in
      inl (here.0, subst (λ (b : List ℕ). RefusesNext most_records b here.0 (PcapRefusal bad)) (given_is old new bytes given rest told was left) here.1)

  pub stops_ng : (stop : LoadStop) → StopsIn bytes stop → (bad : NgBad) → IsErrOf {T = Capture} (Err stop) (NgStop bad) → Given old new (λ given rest. HoldsRefusal given rest (NgRefusal bad))
  stops_ng stop stops bad is = λ given rest was left.
      let here : StopsIn bytes (NgStop bad) = subst (StopsIn bytes) (stop_of stop (NgStop bad) is) stops in
      inl (here.0, subst (λ (b : List ℕ). RefusesNext most_records b here.0 (NgRefusal bad)) (given_is old new bytes given rest told was left) here.1)

-- a read that gives no byte leaves what is left
pub ended : (old new : Option (List ℕ)) (n : ℕ) (buf : List ℕ) → n ≡ 0 → old ≡ behind (take n buf) new → old ≡ new
ended old None n buf none given = given
ended old (Some rest) n buf none given = given ∙ ap (λ k. Some (take k buf ++ rest)) none
