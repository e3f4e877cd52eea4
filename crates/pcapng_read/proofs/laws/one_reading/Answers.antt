use Rattle.pcapng_read.proofs.Once.{one_reading as lemma}
use Rattle.pcapng_read.proofs.laws.one_reading.Goals as goal

pub returns : goal.returns
returns c = lemma
