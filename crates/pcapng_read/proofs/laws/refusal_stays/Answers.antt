use Rattle.pcapng_read.proofs.Blocks.{refusal_stays as lemma}
use Rattle.pcapng_read.proofs.laws.refusal_stays.Goals as goal

pub returns : goal.returns
returns c = lemma
