-- How a command ends, by its results and by its fault.
use Rattle.std.proofs.Common.{◌≡◌, ◌≢◌, ◌∙◌, ◌⊎◌, inl, inr, refl, sym, ap, subst, arith, List, [], ℕ}
use Rattle.std.specs.Prelude.{Option, Some}
use Rattle.flow_base.specs.Causes.{Rose}
use Rattle.flow_base.specs.Flow.{behind, Given}
use Rattle.flow_base.specs.declared.status.Status.{Status}
use Rattle.flow_base.specs.declared.status.Status.TheVariants.{Done, Usage, ReadFault, WriteFault, BadCapture, TooMany, Differs}
use Rattle.capture_load.specs.declared.capture.Refusal.{Refusal}
use Rattle.capture_load.specs.Generated.{generated}
use Rattle.words.specs.declared.command.Command.{Command}
use Rattle.words.specs.declared.command.Command.TheVariants.{Run, Load, Prefix, Epochs, Audit}
use Rattle.octo_run.specs.Ends.{CutShort, HasReason, IsEnd, IsTold, Reported, Side, side}
use Rattle.octo_run.specs.Faults.{TellsLine, fault_line, status_of}
use Rattle.octo_run.specs.Refusals.{HasJournal, Input, IsAccepted, IsDifference, IsRefusal, IsUnrefused, OfCapture, OfJournal, HoldsFault}
use Rattle.octo_run.specs.Runs.{GivenFor, HasText, input_of}
use Rattle.octo_run.specs.declared.faults.Fault.{Fault}
use Rattle.octo_run.specs.declared.faults.Fault.TheVariants.{Usage as UsageFault, ReadFault as SourceFault, WriteFault as SinkFault, Bad as BadFault, BadLine as LineFault, NoMemory as MemoryFault, Differs as JournalFault}
use Rattle.octo_run.proofs.Commands.{load_given, load_refused}
use Rattle.octo_run.proofs.Statuses.{bad_fault, differs_fault, never_done, read_fault, usage_fault, write_fault}

refusal_of_capture : (input : Input) (bad : Refusal) → IsRefusal input (BadFault bad)
refusal_of_capture OfCapture bad = tt
refusal_of_capture OfJournal bad = tt

refusal_of_line : (input : Input) (line : ℕ) → HasJournal input → IsRefusal input (LineFault line)
refusal_of_line OfCapture line has = has
refusal_of_line OfJournal line has = tt

module _ (input : Input) (Reads : (List ℕ → List ℕ → Type 0) → Type 0) (IsText : List ℕ → List ℕ → Type 0) (source source' out out' err err' : Side) where
  pub done_end : Reads (Reported IsText out.bytes out'.bytes) → Reads (IsAccepted input) → IsEnd input Reads IsText source source' out out' err err' Done
  done_end reported accepted = record { done = λ is. (reported, accepted); failed = λ other. absurd (other refl) }

  pub fault_end : (fault : Fault) (status : Status) → status ≡ status_of fault → TellsLine err.bytes err'.bytes err.faults err'.faults (fault_line fault)
      → HasReason input Reads IsText source source' out out' fault → IsEnd input Reads IsText source source' out out' err err' status
  fault_end fault status e line reason = record {
    done = λ is. absurd (never_done fault (sym e ∙ is));
    failed = λ other. (fault, e, line, reason);
  }

  -- what each status says
  module _ (status : Status) (end : IsEnd input Reads IsText source source' out out' err err' status) where
    reason_of : (other : status ≢ Done) (fault : Fault) → (end.failed other).0 ≡ fault → HasReason input Reads IsText source source' out out' fault
    reason_of other fault is = subst (HasReason input Reads IsText source source' out out') is (end.failed other).3

    pub told : status ≢ Done → IsTold err err' status
    told other = let f = end.failed other in (f.0, f.1, f.2)

    pub no_usage : status ≡ Usage → ⊥
    no_usage is = let other : status ≢ Done = λ done. (let e : Usage ≡ Done = sym is ∙ done in cc) in
        reason_of other UsageFault (usage_fault (end.failed other).0 (sym (end.failed other).1 ∙ is))

    read_reason : status ≡ ReadFault → HasReason input Reads IsText source source' out out' SourceFault
    read_reason is = let other : status ≢ Done = λ done. (let e : ReadFault ≡ Done = sym is ∙ done in cc) in
        reason_of other SourceFault (read_fault (end.failed other).0 (sym (end.failed other).1 ∙ is))

    pub rose : status ≡ ReadFault → Rose source.faults source'.faults
    rose is = (read_reason is).0

    pub unrefused : status ≡ ReadFault → Reads (IsUnrefused input)
    unrefused is = (read_reason is).1

    write_reason : status ≡ WriteFault → HasReason input Reads IsText source source' out out' SinkFault
    write_reason is = let other : status ≢ Done = λ done. (let e : WriteFault ≡ Done = sym is ∙ done in cc) in
        reason_of other SinkFault (write_fault (end.failed other).0 (sym (end.failed other).1 ∙ is))

    pub risen : status ≡ WriteFault → Rose out.faults out'.faults
    risen is = (write_reason is).0

    pub cut : status ≡ WriteFault → Reads (CutShort IsText out.bytes out'.bytes)
    cut is = (write_reason is).1

    pub refused : (status ≡ BadCapture) ⊎ (status ≡ TooMany) → (fault : Fault) × IsRefusal input fault × (status ≡ status_of fault)
        × Reads (λ given rest. HoldsFault input given rest fault) × TellsLine err.bytes err'.bytes err.faults err'.faults (fault_line fault)
    refused either = by (bad_fault f.0 (elim either [ inl is ↦ inl (sym f.1 ∙ is) | inr is ↦ inr (sym f.1 ∙ is) ]))
      where
        other : status ≢ Done
        other done = elim either [
          | inl is ↦ (let e : BadCapture ≡ Done = sym is ∙ done in cc)
          | inr is ↦ (let e : TooMany ≡ Done = sym is ∙ done in cc)
        ]

        f : (fault : Fault) × (status ≡ status_of fault) × TellsLine err.bytes err'.bytes err.faults err'.faults (fault_line fault)
            × HasReason input Reads IsText source source' out out' fault
        f = end.failed other

        by : ((bad : Refusal) × (f.0 ≡ BadFault bad)) ⊎ ((line : ℕ) × (f.0 ≡ LineFault line))
            → (fault : Fault) × IsRefusal input fault × (status ≡ status_of fault)
            × Reads (λ given rest. HoldsFault input given rest fault) × TellsLine err.bytes err'.bytes err.faults err'.faults (fault_line fault)
        by (inl b) = (
          BadFault b.0,
          refusal_of_capture input b.0,
          f.1 ∙ ap status_of b.1,
          reason_of other (BadFault b.0) b.1,
          subst (λ (x : Fault). TellsLine err.bytes err'.bytes err.faults err'.faults (fault_line x)) b.1 f.2,
        )
        by (inr l) =
            let reason = reason_of other (LineFault l.0) l.1 in (
              LineFault l.0,
              refusal_of_line input l.0 reason.0,
              f.1 ∙ ap status_of l.1,
              reason.1,
              subst (λ (x : Fault). TellsLine err.bytes err'.bytes err.faults err'.faults (fault_line x)) l.1 f.2,
            )

    pub differs : status ≡ Differs → HasJournal input × (line : ℕ) × (kept : List ℕ) × (lawful : List ℕ) × Reads (IsDifference input line kept lawful)
        × Reads (IsAccepted input) × TellsLine err.bytes err'.bytes err.faults err'.faults (fault_line (JournalFault line kept lawful))
    differs is =
        let other : status ≢ Done = λ done. (let e : Differs ≡ Done = sym is ∙ done in cc) in
        let f = end.failed other in
        let d = differs_fault f.0 (sym f.1 ∙ is) in
        let reason = reason_of other (JournalFault d.0 d.1 d.2) d.3 in (
          reason.0,
          d.0,
          d.1,
          d.2,
          reason.1,
          reason.2,
          subst (λ (x : Fault). TellsLine err.bytes err'.bytes err.faults err'.faults (fault_line x)) d.3 f.2,
        )

    pub accepted : (status ≡ Done) ⊎ ((status ≡ WriteFault) ⊎ (status ≡ Differs)) → Reads (IsAccepted input)
    accepted (inl is) = (end.done is).1
    accepted (inr (inl is)) = (write_reason is).2
    accepted (inr (inr is)) = (differs is).5

-- a count that stands at 0 has not risen
pub no_rise : Rose 0 0 → ⊥
no_rise rose = omega (arith, rose)

-- a command that reads generated bytes: they never fail, and the source is left
module _ (records start : ℕ) (before after given : List ℕ) (is : before ≡ generated records start) (front : Some before ≡ behind given (Some after)) (IsText : List ℕ → List ℕ → Type 0) (source source' out out' : Side) where
  load_reason : (fault : Fault) → HasReason OfCapture (Given (Some before) (Some after)) IsText (side (Some before) 0) (side (Some after) 0) out out' fault
      → HasReason OfCapture (λ P. P (generated records start) []) IsText source source' out out' fault
  load_reason UsageFault reason = reason
  load_reason SourceFault reason = absurd (no_rise reason.0)
  load_reason SinkFault reason = (
    reason.0,
    load_given records start before after given is front (CutShort IsText out.bytes out'.bytes) (λ r. r.0) reason.1,
    load_given records start before after given is front (IsAccepted OfCapture) (λ r. r.0) reason.2,
  )
  load_reason (BadFault bad) reason = load_refused records start before after given is front bad reason
  load_reason (LineFault line) reason = absurd (reason.0)
  load_reason MemoryFault reason = tt
  load_reason (JournalFault line kept lawful) reason = absurd (reason.0)

  pub load_end : (err err' : Side) (status : Status) → IsEnd OfCapture (Given (Some before) (Some after)) IsText (side (Some before) 0) (side (Some after) 0) out out' err err' status
      → IsEnd OfCapture (λ P. P (generated records start) []) IsText source source' out out' err err' status
  load_end err err' status end = record {
    done = λ s. (
      load_given records start before after given is front (Reported IsText out.bytes out'.bytes) (λ r. r.0) (end.done s).0,
      load_given records start before after given is front (IsAccepted OfCapture) (λ r. r.0) (end.done s).1,
    );
    failed = λ other. let f = end.failed other in (f.0, f.1, f.2, load_reason f.0 f.3);
  }

-- a journal is read by `audit` alone
pub journal_command : (k : Command) → HasJournal (input_of k) → k ≡ Audit
journal_command (Run o) has = absurd (has)
journal_command (Load records start o) has = absurd (has)
journal_command (Prefix o watch) has = absurd (has)
journal_command (Epochs packets change o) has = absurd (has)
journal_command Audit has = refl

-- the end of a command that is known
pub at_command : (k d : Command) (old new : Option (List ℕ)) (source source' out out' err err' : Side) (status : Status) → k ≡ d
    → IsEnd (input_of d) (GivenFor d old new) (HasText d) source source' out out' err err' status → IsEnd (input_of k) (GivenFor k old new) (HasText k) source source' out out' err err' status
at_command k d old new source source' out out' err err' status e end =
    subst (λ (x : Command). IsEnd (input_of x) (GivenFor x old new) (HasText x) source source' out out' err err' status) (sym e) end
