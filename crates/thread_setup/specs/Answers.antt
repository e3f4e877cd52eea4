-- Answers that a reader has not asked for yet.
use Rattle.std.specs.Prelude.{◌≡◌, ◌<◌, ◌+◌, ℕ, List, All, length, slice_index_or}
use Rattle.hash_rows.specs.declared.answer.Answer.{Answer}
use Rattle.hash_rows.specs.declared.options.Options.{Options}
use Rattle.listed.specs.Listed.{Listed}
use Rattle.live_state.specs.Copies.{HasRoomFor}
use Rattle.push_history.specs.Journal.{keys_of}

-- the first n answers of reader q: they have room for the workers and the keys, and are numbered
pub record AreNew (o : Options) (q n : ℕ) (answers : List Answer) : Type 0 where
  pub len : length answers ≡ n
  pub room : All (HasRoomFor o.workers (keys_of o)) answers
  pub numbered : (k : ℕ) (d : Answer) → k < n → ((slice_index_or answers k d).reader ≡ q) × ((slice_index_or answers k d).number ≡ k)

-- the answers of n readers, from the last reader on
pub record AreLists (o : Options) (n : ℕ) (lists : List (Listed Answer)) : Type 0 where
  pub len : length lists ≡ n
  pub each : (k q : ℕ) (d : Listed Answer) → k < n → k + q + 1 ≡ o.readers → AreNew o q o.asks (slice_index_or lists k d).items
