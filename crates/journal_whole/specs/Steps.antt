-- What one line more says.
use Rattle.std.specs.Prelude.{◌≡◌, ◌≢◌, List, ℕ, Bool, true, false}
use Rattle.journal_read.specs.Drafts.{Draft, MayFollow, read_on}
use Rattle.journal_read.specs.Entries.{Entry, line_of}

-- the line is that of an entry that may come next, and it is read now
pub record Reads (old new : Draft) (line : List ℕ) : Type 0 where
  pub entry : Entry
  pub may : MayFollow old entry
  pub is : line ≡ line_of entry
  pub read : read_on old entry ≡ new

-- the line is that of no entry that may come next
abbrev pub IsNone : Draft → List ℕ → Type 0
IsNone d line = (e : Entry) → MayFollow d e → line ≢ line_of e

-- which of the two it is
pub record Judges (old new : Draft) (line : List ℕ) (taken : Bool) : Type 0 where
  pub yes : taken ≡ true → Reads old new line
  pub no : taken ≡ false → IsNone old line
