use Rattle.pcapng_read.proofs.Once.{one_outcome as lemma}
use Rattle.pcapng_read.proofs.laws.one_outcome.Goals as goal

pub returns : goal.returns
returns c = lemma
