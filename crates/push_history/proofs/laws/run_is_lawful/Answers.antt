use Rattle.push_history.proofs.RunLaws.{run_lawful}
use Rattle.push_history.proofs.laws.run_is_lawful.Goals as goal

pub returns : goal.returns
returns c = run_lawful
