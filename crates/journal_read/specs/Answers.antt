-- What the line of an answer says.
use Rattle.std.specs.Prelude.{◌≡◌, ◌<◌, ◌^◌, ℕ, ℤ, List, ◌++◌, All, false, length}
use Rattle.std.specs.List.{flat_map}
use lib.Signed.{mag}
use Rattle.hash_rows.specs.declared.answer.Answer.{Answer}
use Rattle.push_history.specs.Answers.{AnswerParts}
use Rattle.octo_text.specs.JournalText.{spaced, spaced_signed}
use Rattle.journal_read.specs.Numbers.{begins_digit}

-- where as many numbers of 64 bits stand in the text, each behind a space, they are these, and this is behind them
abbrev pub ReadsNumbers : List ℕ → List ℕ → List ℕ → Type 0
ReadsNumbers text numbers behind =
    (ns rest : List ℕ) → length ns ≡ length numbers → All (λ n. n < 2 ^ 64) ns → begins_digit rest ≡ false
    → text ≡ flat_map spaced ns ++ rest
    → (numbers ≡ ns) × (behind ≡ rest)

-- the same of numbers with sign
abbrev pub ReadsEstimates : List ℕ → List ℤ → List ℕ → Type 0
ReadsEstimates text numbers behind =
    (xs : List ℤ) (rest : List ℕ) → length xs ≡ length numbers → All (λ x. mag x < 2 ^ 63) xs → begins_digit rest ≡ false
    → text ≡ flat_map spaced_signed xs ++ rest → (numbers ≡ xs) × (behind ≡ rest)

-- an answer of this reader and this number, with so many numbers each in the range of its type
pub record IsAnswerOf (q n workers keys : ℕ) (a : AnswerParts) : Type 0 where
  pub reader : a.reader ≡ q
  pub number : a.number ≡ n
  pub reader_fits : a.reader < 2 ^ 32
  pub number_fits : a.number < 2 ^ 32
  pub folded : a.folded < 2 ^ 64
  pub front_len : length a.front ≡ workers
  pub front : All (λ m. m < 2 ^ 64) a.front
  pub shown_len : length a.shown ≡ keys
  pub shown : All (λ x. mag x < 2 ^ 63) a.shown

-- the answer has the same reader, number and lengths as before
pub record IsSameAsked (old new : Answer) : Type 0 where
  pub reader : new.reader ≡ old.reader
  pub number : new.number ≡ old.number
  pub front : length new.front.items ≡ length old.front.items
  pub shown : length new.shown.items ≡ length old.shown.items
  pub upto : new.upto ≡ old.upto
