-- How a command may end.
use Rattle.std.specs.Prelude.{◌≡◌, ◌≢◌, ℕ, List, [], Option}
use Rattle.flow_base.specs.Causes.{Rose}
use Rattle.flow_base.specs.Flow.{grown, TookFront}
use Rattle.flow_base.specs.declared.status.Status.{Status}
use Rattle.flow_base.specs.declared.status.Status.TheVariants.{Done}
use Rattle.octo_run.specs.Faults.{TellsLine, fault_line, status_of}
use Rattle.octo_run.specs.Refusals.{HasJournal, Input, IsAccepted, IsDifference, IsUnrefused, HoldsFault}
use Rattle.octo_run.specs.declared.faults.Fault.{Fault}
use Rattle.octo_run.specs.declared.faults.Fault.TheVariants.{Usage as UsageFault, ReadFault as SourceFault, WriteFault as SinkFault}
use Rattle.octo_run.specs.declared.faults.Fault.TheVariants.{Bad as BadFault, BadLine as LineFault, NoMemory as MemoryFault, Differs as JournalFault}

-- what is seen of a source or a sink: the bytes that it has left or holds, where it tells them, and how often it failed
pub record Side : Type 0 where
  pub bytes : Option (List ℕ)
  pub faults : ℕ

-- what an output holds, and how many faults it had
abbrev pub side : Option (List ℕ) → ℕ → Side
side bytes faults = record { bytes = bytes; faults = faults }

-- all bytes were given, and the sink took their text
abbrev pub Reported : (List ℕ → List ℕ → Type 0) → Option (List ℕ) → Option (List ℕ) → List ℕ → List ℕ → Type 0
Reported IsText before after given rest = (rest ≡ []) × (text : List ℕ) × IsText given text × (after ≡ grown before text)

-- all bytes were given, and the sink took a front of their text and not all
abbrev pub CutShort : (List ℕ → List ℕ → Type 0) → Option (List ℕ) → Option (List ℕ) → List ℕ → List ℕ → Type 0
CutShort IsText before after given rest = (rest ≡ []) × (text : List ℕ) × IsText given text × TookFront before after text

-- a fault comes with this status, and the line tells it
abbrev pub IsTold : Side → Side → Status → Type 0
IsTold err err' status = (fault : Fault) × (status ≡ status_of fault)
    × TellsLine err.bytes err'.bytes err.faults err'.faults (fault_line fault)

-- why a fault comes, by the bytes that are read, the source and the output: each as it was before and as it is now. Words come before
-- all of this, and want of memory has no cause
abbrev pub HasReason : Input → ((List ℕ → List ℕ → Type 0) → Type 0) → (List ℕ → List ℕ → Type 0) → Side → Side → Side → Side → Fault
    → Type 0
HasReason input Reads IsText source source' out out' UsageFault = ⊥
HasReason input Reads IsText source source' out out' SourceFault = Rose source.faults source'.faults × Reads (IsUnrefused input)
HasReason input Reads IsText source source' out out' SinkFault =
    Rose out.faults out'.faults × Reads (CutShort IsText out.bytes out'.bytes) × Reads (IsAccepted input)
HasReason input Reads IsText source source' out out' (BadFault refusal) = Reads (λ given rest. HoldsFault input given
    rest (BadFault refusal))
HasReason input Reads IsText source source' out out' (LineFault line) =
    HasJournal input × Reads (λ given rest. HoldsFault input given rest (LineFault line))
HasReason input Reads IsText source source' out out' MemoryFault = Unit {0}
HasReason input Reads IsText source source' out out' (JournalFault line kept lawful) =
    HasJournal input × Reads (IsDifference input line kept lawful) × Reads (IsAccepted input)

-- the status, and what it says of the bytes that are read, of the output and of the error output: each as it was before and as it is now
pub record IsEnd (input : Input) (Reads : (List ℕ → List ℕ → Type 0) → Type 0) (IsText : List ℕ → List ℕ
    → Type 0) (source source' out out' err err' : Side) (status : Status) : Type 0 where
  pub done : status ≡ Done → Reads (Reported IsText out.bytes out'.bytes) × Reads (IsAccepted input)
  pub failed : status ≢ Done → (fault : Fault) × (status ≡ status_of fault)
      × TellsLine err.bytes err'.bytes err.faults err'.faults (fault_line fault)
      × HasReason input Reads IsText source source' out out' fault
