-- What the text of a journal is, and what isn't one.
use Rattle.std.specs.Prelude.{◌≡◌, ◌≢◌, ◌<◌, ◌+◌, ℕ, List, [], ◌∷◌, ◌++◌, Option, Some, length}
use Rattle.std.specs.List.{flat_map}
use Rattle.flow_base.specs.LinesRead.{HasNoFeed, IsLine}
use Rattle.flow_base.specs.declared.lines.LineEnd.{LineEnd}
use Rattle.push_history.specs.Journal.{Journal}
use Rattle.journal_read.specs.Entries.{Entry, line_of}
use Rattle.journal_read.specs.Drafts.{Draft, MayFollow, read_on, Nothing, Ended}

-- the lines of the entries may follow each other, and lead from the one draft to the other
abbrev pub Leads : Draft → List Entry → Draft → Type 0
Leads d [] after = d ≡ after
Leads d (e ∷ es) after = MayFollow d e × Leads (read_on d e) es after

-- nothing was read yet
abbrev pub IsFresh : Draft → Type 0
IsFresh d = (d.stage ≡ Nothing) × (d.told.refused ≡ []) × (d.told.pushes ≡ []) × (d.told.answers ≡ []) × (d.told.live ≡ [])
    × (d.refused ≡ 0) × (d.due ≡ 0) × (d.least ≡ 0)

-- the text is that of a journal with this content: the lines of entries that lead to its end
pub record IsJournal (text : List ℕ) (content : Journal) : Type 0 where
  pub before : Draft
  pub fresh : IsFresh before
  pub entries : List Entry
  pub after : Draft
  pub lead : Leads before entries after
  pub ended : after.stage ≡ Ended
  pub told : after.told ≡ content
  pub lines : text ≡ flat_map line_of entries

-- of these bytes, with this left behind them, the line with this number isn't one of a journal: the lines before it are, it
-- stands there with its line feed, or with 1,024 bytes and none, or unfinished where the input ends, and it is the line of no
-- entry that may come next
pub record IsBadLine (bytes : List ℕ) (left : Option (List ℕ)) (line : ℕ) : Type 0 where
  pub before : Draft
  pub fresh : IsFresh before
  pub entries : List Entry
  pub after : Draft
  pub lead : Leads before entries after
  pub going : after.stage ≢ Ended
  pub number : line ≡ length entries + 1
  pub stands : List ℕ
  pub parts : bytes ≡ flat_map line_of entries ++ stands
  pub end : LineEnd
  pub is_line : IsLine left stands end
  pub none : (e : Entry) → MayFollow after e → stands ≢ line_of e

-- the bytes given begin with the text of a journal with this content, and this is behind it
abbrev pub IsReadText : List ℕ → Journal → List ℕ → Type 0
IsReadText given content behind = (text : List ℕ) × (given ≡ text ++ behind) × IsJournal text content

-- a front of the bytes given, before what is left, ends with the line of this number, which isn't one of a journal
abbrev pub HoldsBadLine : List ℕ → List ℕ → ℕ → Type 0
HoldsBadLine given rest line = (bytes tail : List ℕ) × (given ≡ bytes ++ tail) × IsBadLine bytes (Some (tail ++ rest)) line

-- the bytes break off before the end of a journal: they are lines of one, and behind them fewer than 1,024 bytes without a
-- line feed
pub record BreaksOff (bytes : List ℕ) : Type 0 where
  pub before : Draft
  pub fresh : IsFresh before
  pub entries : List Entry
  pub after : Draft
  pub lead : Leads before entries after
  pub going : after.stage ≢ Ended
  pub stands : List ℕ
  pub parts : bytes ≡ flat_map line_of entries ++ stands
  pub unended : HasNoFeed stands
  pub short : length stands < 1024
