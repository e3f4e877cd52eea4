use Rattle.pcapng_read.proofs.Once.{one_refusal as lemma}
use Rattle.pcapng_read.proofs.laws.one_refusal.Goals as goal

pub returns : goal.returns
returns c = lemma
