-- Which fault a status comes with.
use Rattle.std.proofs.Common.{◌≡◌, refl, ◌⊎◌, inl, inr, ℕ, List}
use Rattle.flow_base.specs.declared.status.Status.{Status}
use Rattle.flow_base.specs.declared.status.Status.TheVariants.{Done, Usage, ReadFault, WriteFault, BadCapture, TooMany, Differs}
use Rattle.pcap_read.specs.declared.bad.Bad.TheVariants.{ShortHeader, UnknownMagic, PcapNg, BadVersion, NotEthernet, TooLong}
use Rattle.pcap_read.specs.declared.bad.Bad.TheVariants.{TooMany as TooManyRecords}
use Rattle.pcapng_read.specs.declared.bad.NgBad.TheVariants.{ShortSection, BadOrder, BadBlock, NoInterface}
use Rattle.pcapng_read.specs.declared.bad.NgBad.TheVariants.{BadVersion as NgVersion, NotEthernet as NgLink, TooLong as NgLong, TooMany as TooManyBlocks}
use Rattle.capture_load.specs.declared.capture.Refusal.{Refusal}
use Rattle.capture_load.specs.declared.capture.Refusal.TheVariants.{Pcap, Ng}
use Rattle.octo_run.specs.declared.faults.Fault.{Fault}
use Rattle.octo_run.specs.declared.faults.Fault.TheVariants.{Usage as UsageFault, ReadFault as SourceFault, WriteFault as SinkFault, Bad as BadFault, BadLine as LineFault, NoMemory as MemoryFault, Differs as JournalFault}
use Rattle.octo_run.specs.Faults.{status_of, status_of_bad}

-- a refusal's status is one of two
bad_status : (bad : Refusal) → (status_of_bad bad ≡ BadCapture) ⊎ (status_of_bad bad ≡ TooMany)
bad_status (Pcap (ShortHeader len)) = inl refl
bad_status (Pcap (UnknownMagic magic)) = inl refl
bad_status (Pcap PcapNg) = inl refl
bad_status (Pcap (BadVersion major minor)) = inl refl
bad_status (Pcap (NotEthernet link)) = inl refl
bad_status (Pcap (TooLong offset length)) = inl refl
bad_status (Pcap TooManyRecords) = inr refl
bad_status (Ng (ShortSection len)) = inl refl
bad_status (Ng (BadOrder magic)) = inl refl
bad_status (Ng (NgVersion major minor)) = inl refl
bad_status (Ng (BadBlock offset length)) = inl refl
bad_status (Ng (NgLink link)) = inl refl
bad_status (Ng (NoInterface offset number)) = inl refl
bad_status (Ng (NgLong offset length)) = inl refl
bad_status (Ng TooManyBlocks) = inr refl

no_bad : {A : Type 0} (bad : Refusal) (s : Status) → status_of_bad bad ≡ s → (BadCapture ≡ s → ⊥) → (TooMany ≡ s → ⊥) → A
no_bad bad s is one two = absurd (elim (bad_status bad) [ inl e ↦ one (let f : BadCapture ≡ s = cc in f) | inr e ↦ two (let f : TooMany ≡ s = cc in f) ])

pub read_fault : (f : Fault) → status_of f ≡ ReadFault → f ≡ SourceFault
read_fault UsageFault is = absurd (cc)
read_fault SourceFault is = refl
read_fault SinkFault is = absurd (cc)
read_fault (BadFault bad) is = no_bad bad ReadFault is (λ e. cc) (λ e. cc)
read_fault (LineFault line) is = absurd (cc)
read_fault MemoryFault is = absurd (cc)
read_fault (JournalFault line kept lawful) is = absurd (cc)

pub write_fault : (f : Fault) → status_of f ≡ WriteFault → f ≡ SinkFault
write_fault UsageFault is = absurd (cc)
write_fault SourceFault is = absurd (cc)
write_fault SinkFault is = refl
write_fault (BadFault bad) is = no_bad bad WriteFault is (λ e. cc) (λ e. cc)
write_fault (LineFault line) is = absurd (cc)
write_fault MemoryFault is = absurd (cc)
write_fault (JournalFault line kept lawful) is = absurd (cc)

pub usage_fault : (f : Fault) → status_of f ≡ Usage → f ≡ UsageFault
usage_fault UsageFault is = refl
usage_fault SourceFault is = absurd (cc)
usage_fault SinkFault is = absurd (cc)
usage_fault (BadFault bad) is = no_bad bad Usage is (λ e. cc) (λ e. cc)
usage_fault (LineFault line) is = absurd (cc)
usage_fault MemoryFault is = absurd (cc)
usage_fault (JournalFault line kept lawful) is = absurd (cc)

pub never_done : (f : Fault) → status_of f ≡ Done → ⊥
never_done UsageFault is = cc
never_done SourceFault is = cc
never_done SinkFault is = cc
never_done (BadFault bad) is = no_bad bad Done is (λ e. cc) (λ e. cc)
never_done (LineFault line) is = cc
never_done MemoryFault is = cc
never_done (JournalFault line kept lawful) is = cc

pub differs_fault : (f : Fault) → status_of f ≡ Differs → (line : ℕ) × (kept : List ℕ) × (lawful : List ℕ) × (f ≡ JournalFault line kept lawful)
differs_fault UsageFault is = absurd (cc)
differs_fault SourceFault is = absurd (cc)
differs_fault SinkFault is = absurd (cc)
differs_fault (BadFault bad) is = no_bad bad Differs is (λ e. cc) (λ e. cc)
differs_fault (LineFault line) is = absurd (cc)
differs_fault MemoryFault is = absurd (cc)
differs_fault (JournalFault line kept lawful) is = (line, kept, lawful, refl)

-- a refusal of the capture, or of a line of the journal
pub bad_fault : (f : Fault) → (status_of f ≡ BadCapture) ⊎ (status_of f ≡ TooMany) → ((bad : Refusal) × (f ≡ BadFault bad)) ⊎ ((line : ℕ) × (f ≡ LineFault line))
bad_fault UsageFault (inl is) = absurd (cc)
bad_fault UsageFault (inr is) = absurd (cc)
bad_fault SourceFault (inl is) = absurd (cc)
bad_fault SourceFault (inr is) = absurd (cc)
bad_fault SinkFault (inl is) = absurd (cc)
bad_fault SinkFault (inr is) = absurd (cc)
bad_fault (BadFault bad) either = inl (bad, refl)
bad_fault (LineFault line) either = inr (line, refl)
bad_fault MemoryFault (inl is) = absurd (cc)
bad_fault MemoryFault (inr is) = absurd (cc)
bad_fault (JournalFault line kept lawful) (inl is) = absurd (cc)
bad_fault (JournalFault line kept lawful) (inr is) = absurd (cc)
