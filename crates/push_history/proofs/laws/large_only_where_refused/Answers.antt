use Rattle.push_history.proofs.Telling.{large_refused}
use Rattle.push_history.proofs.laws.large_only_where_refused.Goals as goal

pub returns : goal.returns
returns c = large_refused
