use Rattle.push_history.proofs.Conserved.{conserved}
use Rattle.push_history.proofs.laws.nothing_is_lost.Goals as goal

pub returns : goal.returns
returns c = conserved
