-- What is read of a journal so far, and the lists that hold it.
use Rattle.std.specs.Prelude.{◌≡◌, ◌≤◌, ◌<◌, ◌+◌, ◌*◌, ◌/◌, ◌%◌, ◌^◌, ◌⊎◌, ℕ, List, [], ◌∷◌, ◌++◌, All, Bool, true, false, length, replicate, drop, map}
use Rattle.std.specs.List.{range_with_len}
use Rattle.hash_rows.specs.declared.options.Options.{Options}
use Rattle.hash_rows.specs.declared.answer.Answer.{Answer}
use Rattle.hash_rows.specs.Lawful.{IsLawful}
use Rattle.hash_rows.specs.Marks.{marked}
use Rattle.push_history.specs.Answers.{AnswerParts, parts_of}
use Rattle.push_history.specs.Journal.{Journal as Content, keys_of}
use Rattle.push_history.specs.LawfulJournal.{places_of}
use Rattle.octo_text.specs.declared.journal.Journal.{Journal}
use Rattle.journal_read.specs.Drafts.{Draft, Stage, Listing, Counted, Ended}
use Rattle.journal_whole.specs.declared.reading.Place.{Place}
use Rattle.journal_whole.specs.declared.reading.Place.TheVariants.{Lists, Tallied, Complete}
use Rattle.journal_whole.specs.declared.reading.Reading.{Reading}

-- how far the lines are read
abbrev pub stage_of : Place → Stage
stage_of Lists = Listing
stage_of Tallied = Counted
stage_of Complete = Ended

-- what the lists tell
abbrev pub told_by : Journal → Content
told_by j = record {
  options = record j.options { journal = true };
  refused = map marked j.lists.refused.items;
  pushes = j.lists.pushes.items;
  answers = map parts_of j.lists.answers.items;
  live = j.lists.live.items;
  missed = j.lists.missed;
}

-- what was read so far
abbrev pub draft_of : Reading → Draft
draft_of r = record { stage = stage_of r.place; told = told_by r.journal; refused = r.refused; due = r.due; least = r.least }

-- what was read once the options were
abbrev pub begun : Options → Draft
begun o = record {
  stage = Listing;
  told = record { options = o; refused = []; pushes = []; answers = []; live = []; missed = 0 };
  refused = 0;
  due = 0;
  least = 0;
}

-- the last list is clear from this place on
abbrev pub IsClearFrom : ℕ → List (List Bool) → Type 0
IsClearFrom place rows = (front : List (List Bool)) (last : List Bool) → rows ≡ front ++ last ∷ []
    → All (λ bit. bit ≡ false) (drop place last)

-- the lists have room for all that may come, and hold nothing else
pub record HasRooms (r : Reading) : Type 0 where
  pub watch : r.journal.options.watch.room ≡ 16
  pub refused : r.journal.lists.refused.room ≡ r.journal.options.workers
  pub pushes : r.journal.lists.pushes.room ≡ r.journal.options.workers
  pub answers : r.journal.lists.answers.room ≡ r.journal.options.readers * r.journal.options.asks
  pub live : r.journal.lists.live.room ≡ 1024
  pub bits : All (λ bits. length bits ≡ 2 ^ 27) r.journal.lists.refused.items
  pub clear : IsClearFrom r.least r.journal.lists.refused.items
  pub upto : All (λ a. a.upto.items ≡ replicate r.journal.options.workers 0) r.journal.lists.answers.items

-- an answer with the reader, the number and the lengths of the one at this place
pub record IsNextAnswer (o : Options) (place : ℕ) (a : Answer) : Type 0 where
  pub reader : a.reader ≡ place / o.asks
  pub number : a.number ≡ place % o.asks
  pub reader_fits : a.reader < 2 ^ 32
  pub number_fits : a.number < 2 ^ 32
  pub front : length a.front.items ≡ o.workers
  pub upto : a.upto.items ≡ replicate o.workers 0
  pub shown : length a.shown.items ≡ length (keys_of o)

-- one front number for each worker, none of them above 2 ^ 27, and one estimate for each asked key
pub record HasLengths (o : Options) (a : AnswerParts) : Type 0 where
  pub front : length a.front ≡ o.workers
  pub small : All (λ n. n ≤ 2 ^ 27) a.front
  pub shown : length a.shown ≡ length (keys_of o)

-- the answers so far are those of the first places, by reader, then by number
abbrev pub AreInOrder : ℕ → List AnswerParts → Type 0
AreInOrder asks answers = places_of answers ≡ map (λ place. (place / asks, place % asks)) (range_with_len 0 (length answers))

-- the options are read, and behind the lists each worker and each answer was told of
abbrev pub IsStaged : Draft → Type 0
IsStaged d =
    (d.stage ≡ Listing)
    ⊎ ((length d.told.pushes ≡ d.told.options.workers) × (length d.told.answers ≡ d.told.options.readers * d.told.options.asks)
    × ((d.stage ≡ Counted) ⊎ (d.stage ≡ Ended)))

-- what holds of each draft to which lines lead, once the options are read
pub record IsProper (d : Draft) : Type 0 where
  pub lawful : IsLawful d.told.options
  pub pushes : length d.told.pushes ≤ d.told.options.workers
  pub sent : All (λ n. n ≤ 2 ^ 27) d.told.pushes
  pub refused_len : length d.told.refused ≡ length d.told.pushes
  pub refused : d.refused ≤ 2 ^ 27
  pub due : d.due ≤ d.refused
  pub least : d.least ≤ 2 ^ 27 + 1
  pub early : d.told.pushes ≡ [] → (d.told.answers ≡ []) × (d.due ≡ 0)
  pub answers : length d.told.answers ≤ d.told.options.readers * d.told.options.asks
  pub answers_fit : All (HasLengths d.told.options) d.told.answers
  pub places : AreInOrder d.told.options.asks d.told.answers
  pub live : length d.told.live ≤ 1024
  pub staged : IsStaged d

-- each worker and each answer was told of
abbrev pub IsAnswered : Draft → Type 0
IsAnswered d =
    (d.stage ≡ Listing) × (length d.told.pushes ≡ d.told.options.workers) × (d.due ≡ 0)
    × (length d.told.answers ≡ d.told.options.readers * d.told.options.asks)
