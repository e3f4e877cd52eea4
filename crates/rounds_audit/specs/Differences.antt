-- Where two texts differ, by lines and by words.
use Rattle.std.specs.Prelude.{◌≡◌, ◌≢◌, ◌+◌, ◌==◌, ℕ, List, [], Option, None, Some, codes, slice_get, take}
use Rattle.std.specs.List.{slice_split}
use Rattle.rounds_audit.specs.declared.verdict.Verdict.{Verdict}
use Rattle.rounds_audit.specs.declared.verdict.Verdict.TheVariants.{Lawful, Unlawful}

-- the lines of a text, as line feeds cut it
abbrev pub lines_of : List ℕ → List (List ℕ)
lines_of text = slice_split (λ b. b == 10) text

-- the words of a line, as spaces cut it; where there is no line there is no word
abbrev pub words_of : Option (List ℕ) → List (List ℕ)
words_of None = []
words_of (Some line) = slice_split (λ b. b == 32) line

-- a word as it is told of: its first 99 bytes, or `none` where there is no word
abbrev pub told_word : Option (List ℕ) → List ℕ
told_word None = codes "none"
told_word (Some word) = take 99 word

-- the items before this place are the same in both lists, and those at it are not
pub record IsFirstOther (kept lawful : List (List ℕ)) (place : ℕ) : Type 0 where
  pub before : take place kept ≡ take place lawful
  pub other : slice_get kept place ≢ slice_get lawful place

-- this line, counted from 1, is the first that isn't the same in both texts, with its first words that aren't
pub record IsFirstDifference (kept lawful : List ℕ) (line : ℕ) (kept_word lawful_word : List ℕ) : Type 0 where
  pub row : ℕ
  pub line_is : line ≡ row + 1
  pub lines : IsFirstOther (lines_of kept) (lines_of lawful) row
  pub place : ℕ
  pub words : IsFirstOther (words_of (slice_get (lines_of kept) row)) (words_of (slice_get (lines_of lawful) row)) place
  pub kept_is : kept_word ≡ told_word (slice_get (words_of (slice_get (lines_of kept) row)) place)
  pub lawful_is : lawful_word ≡ told_word (slice_get (words_of (slice_get (lines_of lawful) row)) place)

-- the texts are the same, or this is their first difference
abbrev pub IsTextVerdict : List ℕ → List ℕ → Verdict → Type 0
IsTextVerdict kept lawful Lawful = kept ≡ lawful
IsTextVerdict kept lawful (Unlawful line kept_word lawful_word) = IsFirstDifference kept lawful line kept_word lawful_word
