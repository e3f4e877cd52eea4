use Rattle.journal_whole.proofs.NoBadLine.{one_taken}
use Rattle.journal_whole.proofs.OneJournal.{one_journal as lemma}
use Rattle.journal_whole.proofs.laws.one_journal.Goals as goal

pub returns-clause-text : goal.returns-clause-text
returns-clause-text c = lemma

pub returns-clause-source : goal.returns-clause-source
returns-clause-source c = one_taken
