use Rattle.journal_whole.proofs.NoBadLine.{no_bad_line as lemma, not_taken}
use Rattle.journal_whole.proofs.laws.no_bad_line.Goals as goal

pub returns-clause-bytes : goal.returns-clause-bytes
returns-clause-bytes c = lemma

pub returns-clause-source : goal.returns-clause-source
returns-clause-source c = not_taken
