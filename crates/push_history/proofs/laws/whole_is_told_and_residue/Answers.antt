use Rattle.push_history.proofs.Telling.{whole_is}
use Rattle.push_history.proofs.laws.whole_is_told_and_residue.Goals as goal

pub returns : goal.returns
returns c = whole_is
