-- Journals that can be judged, as they are read of a text.
use Rattle.std.specs.Prelude.{◌≡◌, ◌≤◌, ℕ, List, All, length, map}
use Rattle.hash_rows.specs.declared.answer.Answer.{Answer}
use Rattle.hash_rows.specs.declared.options.Options.{Options}
use Rattle.hash_rows.specs.Lawful.{IsLawful}
use Rattle.push_history.specs.Answers.{parts_of}
use Rattle.push_history.specs.LawfulJournal.{places_of, places_by}
use Rattle.octo_text.specs.Content.{IsAnswerFor}
use Rattle.octo_text.specs.declared.journal.Journal.{Journal}

-- few enough watched keys, workers and refused updates that the lines of the workers can be counted
pub record HasCountableLines (j : Journal) : Type 0 where
  pub watched : length j.options.watch.items ≤ 16
  pub workers : length j.lists.refused.items ≤ 16
  pub refused : All (λ bits. length bits ≤ 134217728) j.lists.refused.items

-- refused updates and a number of pushes for each worker
pub record HasWorkers (j : Journal) : Type 0 where
  pub refused : length j.lists.refused.items ≡ j.options.workers
  pub pushes : length j.lists.pushes.items ≡ j.options.workers

-- no number of the front is above 2 ^ 27
abbrev pub IsShortFront : List ℕ → Type 0
IsShortFront front = All (λ n. n ≤ 134217728) front

-- the answer has a number for each worker and an estimate for each asked key
pub record CanBeJudged (o : Options) (a : Answer) : Type 0 where
  pub fits : IsAnswerFor o a
  pub short : IsShortFront a.front.items

-- a journal as it is read of a text: lawful options, so many lists and answers as they ask for, and few enough keys and
-- messages
pub record IsReadable (j : Journal) : Type 0 where
  pub lawful : IsLawful j.options
  pub short : HasCountableLines j
  pub workers : HasWorkers j
  pub pushes : All (λ n. n ≤ 134217728) j.lists.pushes.items
  pub places : places_of (map parts_of j.lists.answers.items) ≡ places_by j.options.readers j.options.asks
  pub answers : All (CanBeJudged j.options) j.lists.answers.items
  pub live : length j.lists.live.items ≤ 1024
