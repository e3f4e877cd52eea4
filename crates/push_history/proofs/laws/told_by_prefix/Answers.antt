use Rattle.push_history.proofs.Telling.{told_first}
use Rattle.push_history.proofs.laws.told_by_prefix.Goals as goal

pub returns : goal.returns
returns c = λ r threshold updates messages refused h j le cell. told_first r messages h.rising j le cell
