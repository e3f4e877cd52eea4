use Rattle.capture_load.proofs.Once.{refusal_stays as lemma}
use Rattle.capture_load.proofs.laws.refusal_stays.Goals as goal

pub returns : goal.returns
returns c = lemma
