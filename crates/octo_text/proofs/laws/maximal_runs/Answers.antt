use Rattle.octo_text.proofs.MaximalRuns.{maximal_runs}
use Rattle.octo_text.proofs.laws.maximal_runs.Goals as goal

pub returns : goal.returns
returns c = maximal_runs
