-- What a journal tells.
use Rattle.std.specs.Prelude.{◌≡◌, length, ◌≤◌, All}
use Rattle.hash_rows.specs.declared.answer.Answer.{Answer}
use Rattle.hash_rows.specs.declared.options.Options.{Options}
use Rattle.hash_rows.specs.Lawful.{IsLawful}
use Rattle.push_history.specs.Journal.{Journal as Content, journal_of_lists, keys_of}
use Rattle.push_history.specs.declared.run_lists.RunLists.{RunLists}
use Rattle.octo_text.specs.declared.journal.Journal.{Journal}

-- the refused updates are those whose bits are set
unfoldable pub content_of : Journal → Content
content_of j = journal_of_lists j.options j.lists

-- one front number for each worker, and one estimate for each asked key
pub record IsAnswerFor (o : Options) (a : Answer) : Type 0 where
  pub front : length a.front.items ≡ o.workers
  pub shown : length a.shown.items ≡ length (keys_of o)

-- the options are lawful, and each worker and each answer is told of as they ask
pub record AreComplete (o : Options) (lists : RunLists) : Type 0 where
  pub lawful : IsLawful o
  pub refused_len : length lists.refused.items ≡ o.workers
  pub pushes_len : length lists.pushes.items ≡ o.workers
  pub answers_fit : All (IsAnswerFor o) lists.answers.items

-- the same of a journal
abbrev pub IsComplete : Journal → Type 0
IsComplete j = AreComplete j.options j.lists

-- so few numbers that the answer's line is short
pub record FitsLine (a : Answer) : Type 0 where
  pub front : length a.front.items ≤ 16
  pub shown : length a.shown.items ≤ 16
