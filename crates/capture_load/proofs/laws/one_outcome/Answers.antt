use Rattle.capture_load.proofs.Once.{one_outcome as lemma}
use Rattle.capture_load.proofs.laws.one_outcome.Goals as goal

pub returns : goal.returns
returns c = lemma
