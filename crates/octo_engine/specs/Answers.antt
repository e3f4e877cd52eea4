-- The answers of readers that ask at the same moments.
use Rattle.std.specs.Prelude.{◌≡◌, ◌<◌, ℕ, ◌+◌, ◌*◌, List, Some, length, slice_get}
use Rattle.hash_rows.specs.declared.answer.Answer.{Answer}

-- what the look shows, as an answer to the reader
pub record IsLookFor (reader number : ℕ) (look a : Answer) : Type 0 where
  pub its_reader : a.reader ≡ reader
  pub its_number : a.number ≡ number
  pub folded : a.folded ≡ look.folded
  pub front : a.front.items ≡ look.front.items
  pub upto : a.upto.items ≡ look.upto.items
  pub shown : a.shown.items ≡ look.shown.items

-- so many looks more, as answers to the reader
pub record IsLike (reader n : ℕ) (looks old new : List Answer) : Type 0 where
  pub len : length new ≡ length old + n
  pub before : (k : ℕ) (a : Answer) → k < length old → slice_get new k ≡ Some a → slice_get old k ≡ Some a
  pub each : (k : ℕ) (a look : Answer) → k < n → slice_get new (length old + k) ≡ Some a → slice_get looks k ≡ Some look
      → IsLookFor reader k look a

-- each reader has an answer for each look
pub record AreLooksByReader (readers asks : ℕ) (looks answers : List Answer) : Type 0 where
  pub len : length answers ≡ readers * asks
  pub each : (q k : ℕ) (a look : Answer) → q < readers → k < asks → slice_get answers (q * asks + k) ≡ Some a
      → slice_get looks k ≡ Some look → IsLookFor q k look a
