use Rattle.push_history.proofs.Folded.{fold_shown}
use Rattle.push_history.proofs.laws.fold_is_shown.Goals as goal

pub returns : goal.returns
returns c = fold_shown
