use Rattle.journal_whole.proofs.NoBadLine.{one_bad_line as lemma}
use Rattle.journal_whole.proofs.laws.one_bad_line.Goals as goal

pub returns : goal.returns
returns c = lemma
