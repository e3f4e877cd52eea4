-- Why faults come.
use Rattle.std.proofs.Common.{◌≡◌, ◌∙◌, inl, inr, refl, sym, ap, subst, append_assoc, List, [], ◌∷◌, ◌++◌, ℕ}
use Rattle.std.specs.Prelude.{Some}
use Rattle.flow_base.specs.Causes.{Rose}
use Rattle.journal_read.specs.Reading.{BreaksOff, HoldsBadLine, IsReadText}
use Rattle.journal_whole.proofs.BrokenOff.{no_journal, no_line_held}
use Rattle.journal_whole.proofs.NoBadLine.{not_taken}
use Rattle.journal_whole.proofs.OneJournal.{one_front}
use Rattle.pcap_read.specs.Records.{Framed}
use Rattle.pcap_read.specs.declared.bad.Bad.{Bad}
use Rattle.hash_rows.specs.Limits.{most_records}
use Rattle.pcapng_read.specs.declared.bad.NgBad.{NgBad}
use Rattle.capture_load.specs.Capture.{RefusesNext}
use Rattle.capture_load.specs.Loads.{HoldsRefusal}
use Rattle.capture_load.specs.declared.capture.LoadStop.{LoadStop}
use Rattle.capture_load.specs.declared.capture.LoadStop.TheVariants.{ReadFault as SourceStop, Bad as BadStop, Ng as NgStop, NoMemory as MemoryStop}
use Rattle.capture_load.specs.declared.capture.Refusal.{Refusal}
use Rattle.capture_load.specs.declared.capture.Refusal.TheVariants.{Pcap, Ng}
use Rattle.push_history.specs.Journal.{Journal}
use Rattle.octo_run.specs.Ends.{HasReason, Side}
use Rattle.octo_run.specs.Faults.{fault_of}
use Rattle.octo_run.specs.Refusals.{Input, IsUnrefused, OfCapture, OfJournal, HoldsFault}
use Rattle.octo_run.specs.declared.faults.Fault.{Fault}
use Rattle.octo_run.specs.declared.faults.Fault.TheVariants.{Usage as UsageFault, ReadFault as SourceFault, WriteFault as SinkFault, Bad as BadFault, BadLine as LineFault, NoMemory as MemoryFault, Differs as JournalFault}

-- a capture that isn't loaded
pub stop_reason : (input : Input) (Reads : (List ℕ → List ℕ → Type 0) → Type 0) (IsText : List ℕ → List ℕ → Type 0) (source source' out out' : Side) (stop : LoadStop)
    → (stop ≡ SourceStop → Rose source.faults source'.faults) → (stop ≡ SourceStop → Reads (IsUnrefused input))
    → ((bad : Bad) → stop ≡ BadStop bad → Reads (λ given rest. HoldsFault input given rest (BadFault (Pcap bad))))
    → ((bad : NgBad) → stop ≡ NgStop bad → Reads (λ given rest. HoldsFault input given rest (BadFault (Ng bad))))
    → HasReason input Reads IsText source source' out out' (fault_of stop)
stop_reason input Reads IsText source source' out out' SourceStop rose unrefused bad ng = (rose refl, unrefused refl)
stop_reason input Reads IsText source source' out out' (BadStop b) rose unrefused bad ng = bad b refl
stop_reason input Reads IsText source source' out out' (NgStop b) rose unrefused bad ng = ng b refl
stop_reason input Reads IsText source source' out out' MemoryStop rose unrefused bad ng = tt

-- a refusal that stands before the end of input, whatever follows
early : (given : List ℕ) (bad : Refusal) → HoldsRefusal given (0 ∷ []) bad → (frames : List Framed) × RefusesNext most_records given frames bad
early given bad (inl next) = next
early given bad (inr ended) = absurd (let e : 0 ∷ [] ≡ [] = ended.0 in cc)

module _ (given rest : List ℕ) where
  -- nothing but a capture is read
  pub accepted_capture : ((bad : Refusal) → HoldsRefusal given rest bad → ⊥) → (fault : Fault) → HoldsFault OfCapture given rest fault → ⊥
  accepted_capture none UsageFault refuses = refuses
  accepted_capture none SourceFault refuses = refuses
  accepted_capture none SinkFault refuses = refuses
  accepted_capture none (BadFault bad) refuses = none bad refuses
  accepted_capture none (LineFault line) refuses = refuses
  accepted_capture none MemoryFault refuses = refuses
  accepted_capture none (JournalFault line kept lawful) refuses = refuses

  pub unrefused_capture : ((frames : List Framed) (bad : Refusal) → RefusesNext most_records given frames bad → ⊥) → IsUnrefused OfCapture given rest
  unrefused_capture none UsageFault refuses = refuses []
  unrefused_capture none SourceFault refuses = refuses []
  unrefused_capture none SinkFault refuses = refuses []
  unrefused_capture none (BadFault bad) refuses = let next = early given bad (refuses (0 ∷ [])) in none next.0 bad next.1
  unrefused_capture none (LineFault line) refuses = refuses []
  unrefused_capture none MemoryFault refuses = refuses []
  unrefused_capture none (JournalFault line kept lawful) refuses = refuses []

  -- the bytes break off before the end of a journal
  pub unrefused_broken : BreaksOff given → IsUnrefused OfJournal given rest
  unrefused_broken broken UsageFault refuses = refuses []
  unrefused_broken broken SourceFault refuses = refuses []
  unrefused_broken broken SinkFault refuses = refuses []
  unrefused_broken broken (BadFault bad) refuses =
      let held = refuses [] in
      let read = held.2 in
      no_journal read.0 held.1 held.0 (subst BreaksOff read.1 broken) read.2
  unrefused_broken broken (LineFault line) refuses = no_line_held given [] 0 line broken (refuses (0 ∷ []))
  unrefused_broken broken MemoryFault refuses = refuses []
  unrefused_broken broken (JournalFault line kept lawful) refuses = refuses []

-- a journal stands in front
module _ (given behind : List ℕ) (content : Journal) (read : IsReadText given content behind) where
  longer : (rest front tail : List ℕ) → given ≡ front ++ tail → Some (given ++ rest) ≡ Some (front ++ (tail ++ rest))
  longer rest front tail parts = ap (λ (bytes : List ℕ). Some (bytes ++ rest)) parts ∙ ap (λ (bytes : List ℕ). Some bytes) (append_assoc front tail rest)

  no_line : (rest : List ℕ) (line : ℕ) → HoldsBadLine given rest line → ⊥
  no_line rest line held =
      not_taken (given ++ rest) (Some (behind ++ rest)) (Some (held.1 ++ rest)) content line
      (record { text = read.0; taken = longer rest read.0 behind read.1; journal = read.2 })
      (record { bytes = held.0; taken = longer rest held.0 held.1 held.2; bad = held.3 })

  same_behind : (d : Journal) (other : List ℕ) → IsReadText given d other → other ≡ behind
  same_behind d other told = (one_front told.0 read.0 other behind d content told.2 read.2 (sym told.1 ∙ read.1)).1

  pub accepted_journal : (rest : List ℕ) → ((bad : Refusal) → HoldsRefusal behind rest bad → ⊥) → (fault : Fault) → HoldsFault OfJournal given rest fault → ⊥
  accepted_journal rest none UsageFault refuses = refuses
  accepted_journal rest none SourceFault refuses = refuses
  accepted_journal rest none SinkFault refuses = refuses
  accepted_journal rest none (BadFault bad) refuses = none bad (subst (λ (bytes : List ℕ). HoldsRefusal bytes rest bad) (same_behind refuses.0 refuses.1 refuses.2) refuses.3)
  accepted_journal rest none (LineFault line) refuses = no_line rest line refuses
  accepted_journal rest none MemoryFault refuses = refuses
  accepted_journal rest none (JournalFault line kept lawful) refuses = refuses

  pub unrefused_journal : (rest : List ℕ) → ((frames : List Framed) (bad : Refusal) → RefusesNext most_records behind frames bad → ⊥) → IsUnrefused OfJournal given rest
  unrefused_journal rest none UsageFault refuses = refuses []
  unrefused_journal rest none SourceFault refuses = refuses []
  unrefused_journal rest none SinkFault refuses = refuses []
  unrefused_journal rest none (BadFault bad) refuses =
      let held = refuses (0 ∷ []) in
      let next = early behind bad (subst (λ (bytes : List ℕ). HoldsRefusal bytes (0 ∷ []) bad) (same_behind held.0 held.1 held.2) held.3) in
      none next.0 bad next.1
  unrefused_journal rest none (LineFault line) refuses = no_line [] line (refuses [])
  unrefused_journal rest none MemoryFault refuses = refuses []
  unrefused_journal rest none (JournalFault line kept lawful) refuses = refuses []

  -- a refusal behind it
  pub refuses_behind : (rest : List ℕ) (bad : Refusal) → HoldsRefusal behind rest bad → HoldsFault OfJournal given rest (BadFault bad)
  refuses_behind rest bad holds = (content, behind, read, holds)
