-- What reading a journal takes of a source.
use Rattle.std.specs.Prelude.{◌≡◌, ◌≢◌, ◌+◌, ℕ, List, Option, length}
use Rattle.std.specs.List.{flat_map}
use Rattle.flow_base.specs.Flow.{behind}
use Rattle.flow_base.specs.LinesRead.{BrokeOff, IsLine}
use Rattle.flow_base.specs.declared.lines.LineEnd.{LineEnd}
use Rattle.push_history.specs.Journal.{Journal}
use Rattle.journal_read.specs.Drafts.{Draft, MayFollow, read_on, Ended}
use Rattle.hash_rows.specs.declared.options.Options.{Options}
use Rattle.hash_rows.specs.Lawful.{IsLawful}
use Rattle.journal_read.specs.Entries.{Entry, line_of, Terms}
use Rattle.journal_read.specs.Terms.{told_options}
use Rattle.journal_read.specs.Reading.{Leads, IsJournal, IsBadLine, BreaksOff}
use Rattle.journal_whole.specs.Steps.{IsNone}

-- the text of a journal with this content was taken, and nothing more
pub record TakesJournal (old new : Option (List ℕ)) (content : Journal) : Type 0 where
  pub text : List ℕ
  pub taken : old ≡ behind text new
  pub journal : IsJournal text content

-- bytes were taken up to the end of a line that isn't one of a journal
pub record TakesBadLine (old new : Option (List ℕ)) (line : ℕ) : Type 0 where
  pub bytes : List ℕ
  pub taken : old ≡ behind bytes new
  pub bad : IsBadLine bytes new line

-- bytes were taken that break off before the end of a journal
pub record TakesBreak (old new : Option (List ℕ)) : Type 0 where
  pub bytes : List ℕ
  pub taken : old ≡ behind bytes new
  pub breaks : BreaksOff bytes

-- from this draft on the lines of entries were taken that lead to that draft
pub record TakesEntries (before after : Draft) (old new : Option (List ℕ)) : Type 0 where
  pub entries : List Entry
  pub lead : Leads before entries after
  pub taken : old ≡ behind (flat_map line_of entries) new

-- the line of one entry was taken
pub record TakesEntry (before after : Draft) (old new : Option (List ℕ)) : Type 0 where
  pub entry : Entry
  pub may : MayFollow before entry
  pub read : read_on before entry ≡ after
  pub taken : old ≡ behind (line_of entry) new

-- a line was taken that is another than those that may stand there
pub record TakesOther (IsOther : List ℕ → Type 0) (old new : Option (List ℕ)) : Type 0 where
  pub stands : List ℕ
  pub end : LineEnd
  pub is_line : IsLine new stands end
  pub other : IsOther stands
  pub taken : old ≡ behind stands new

-- from this draft on, with so many lines before it, lines of entries were taken, and then one that is none which may come
-- next; it has this number
pub record TakesUpTo (before : Draft) (lines : ℕ) (old new : Option (List ℕ)) (line : ℕ) : Type 0 where
  pub after : Draft
  pub middle : Option (List ℕ)
  pub front : TakesEntries before after old middle
  pub going : after.stage ≢ Ended
  pub number : line ≡ lines + length front.entries + 1
  pub other : TakesOther (IsNone after) middle new

-- from this draft on lines of entries were taken, and then fewer bytes than a line may have, without a line feed
pub record BreaksFrom (before : Draft) (old new : Option (List ℕ)) : Type 0 where
  pub after : Draft
  pub middle : Option (List ℕ)
  pub front : TakesEntries before after old middle
  pub going : after.stage ≢ Ended
  pub broke : BrokeOff middle new

-- the line is that of no lawful options
abbrev pub IsNoTerms : List ℕ → Type 0
IsNoTerms line = (o : Options) → IsLawful o → told_options o ≡ o → line ≢ line_of (Terms o)
