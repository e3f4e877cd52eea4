use Rattle.std.proofs.Common.{rules}
use Rattle.journal_whole.proofs.Entered.{with_missed}
use Rattle.journal_whole.proofs.single.take_missed.Goals as goal

pub returns-in-Some-clause-yes : goal.returns-in-Some-clause-yes
returns-in-Some-clause-yes c = λ _. with_missed c.args.reading.now c.in-Some.missed c.args.line.now c.requires.answered (search rules) c.in-Some.ensures
