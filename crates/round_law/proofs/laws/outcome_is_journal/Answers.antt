use Rattle.round_law.proofs.Journals.{journal_of_rounds}
use Rattle.round_law.proofs.laws.outcome_is_journal.Goals as goal

pub returns : goal.returns
returns c = journal_of_rounds
