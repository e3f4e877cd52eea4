use Rattle.pcapng_read.proofs.Once.{capture_fine as lemma}
use Rattle.pcapng_read.proofs.laws.capture_fine.Goals as goal

pub returns : goal.returns
returns c = lemma
