-- What the form of a journal's text says of the journal.
use Rattle.std.specs.Prelude.{◌≡◌, ◌<◌, ℕ, [], All, length, slice_index_or}
use Rattle.std.specs.List.Sorted.{IsStrictlyIncreasing}
use Rattle.hash_rows.specs.declared.options.Options.{Options}
use Rattle.push_history.specs.Answers.{AnswerParts}
use Rattle.push_history.specs.Journal.{Journal, with_journal, keys_of}
use Rattle.push_history.specs.LawfulJournal.{places_of, places_by}

-- one front number for each worker, and one estimate for each asked key
pub record HasPlaces (o : Options) (a : AnswerParts) : Type 0 where
  pub front : length a.front ≡ o.workers
  pub shown : length a.shown ≡ length (keys_of o)

-- refused updates, which rise, and a number of pushes for each worker, and so many answers of each reader, in order
pub record HasForm (o : Options) (j : Journal) : Type 0 where
  pub options : j.options ≡ with_journal o
  pub refused : length j.refused ≡ o.workers
  pub rising : (w : ℕ) → w < o.workers → IsStrictlyIncreasing (slice_index_or j.refused w [])
  pub pushes : length j.pushes ≡ o.workers
  pub places : places_of j.answers ≡ places_by o.readers o.asks
  pub answers : All (HasPlaces o) j.answers
