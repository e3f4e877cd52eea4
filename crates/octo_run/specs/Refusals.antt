-- What is refused of the bytes that a command reads.
use Rattle.std.specs.Prelude.{◌≡◌, ℕ, List, []}
use Rattle.capture_load.specs.Loads.{HoldsRefusal}
use Rattle.capture_load.specs.declared.capture.Refusal.{Refusal}
use Rattle.journal_read.specs.Reading.{HoldsBadLine, IsReadText}
use Rattle.push_history.specs.Journal.{Journal}
use Rattle.octo_run.specs.Audits.{DiffersAt}
use Rattle.octo_run.specs.declared.faults.Fault.{Fault}
use Rattle.octo_run.specs.declared.faults.Fault.TheVariants.{Bad as BadFault, BadLine as LineFault}

-- what a command reads: a capture, or a journal's text and directly behind it a capture
pub data Input : Type 0 where
  OfCapture : Input
  OfJournal : Input

-- the bytes given begin with a journal's text, and those behind it hold this refusal of a capture
abbrev pub HoldsBehind : List ℕ → List ℕ → Refusal → Type 0
HoldsBehind given rest refusal = (content : Journal) × (behind : List ℕ) × IsReadText given content behind
    × HoldsRefusal behind rest refusal

-- whether a fault tells that such bytes are refused: a refusal of the capture, or a line that isn't one of a journal
abbrev pub IsRefusal : Input → Fault → Type 0
IsRefusal OfCapture (BadFault refusal) = Unit {0}
IsRefusal OfCapture fault = ⊥
IsRefusal OfJournal (BadFault refusal) = Unit {0}
IsRefusal OfJournal (LineFault line) = Unit {0}
IsRefusal OfJournal fault = ⊥

-- the bytes given, with this left behind them, hold the refusal that the fault tells
abbrev pub HoldsFault : Input → List ℕ → List ℕ → Fault → Type 0
HoldsFault OfCapture given rest (BadFault refusal) = HoldsRefusal given rest refusal
HoldsFault OfCapture given rest fault = ⊥
HoldsFault OfJournal given rest (BadFault refusal) = HoldsBehind given rest refusal
HoldsFault OfJournal given rest (LineFault line) = HoldsBadLine given rest line
HoldsFault OfJournal given rest fault = ⊥

-- all bytes were given, and they hold no refusal
abbrev pub IsAccepted : Input → List ℕ → List ℕ → Type 0
IsAccepted input given rest = (rest ≡ []) × ((fault : Fault) → HoldsFault input given rest fault → ⊥)

-- the bytes given hold no refusal before the end of input: none that they would hold whatever followed
abbrev pub IsUnrefused : Input → List ℕ → List ℕ → Type 0
IsUnrefused input given rest = (fault : Fault) → ((more : List ℕ) → HoldsFault input given more fault) → ⊥

-- all bytes were given, and the journal among them isn't lawful, first in this line by these words
abbrev pub IsDifference : Input → ℕ → List ℕ → List ℕ → List ℕ → List ℕ → Type 0
IsDifference OfCapture line kept lawful given rest = ⊥
IsDifference OfJournal line kept lawful given rest = (rest ≡ []) × DiffersAt given line kept lawful

-- whether a journal is read, which may differ
abbrev pub HasJournal : Input → Type 0
HasJournal OfCapture = ⊥
HasJournal OfJournal = Unit {0}
