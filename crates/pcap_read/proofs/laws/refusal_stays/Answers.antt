use Rattle.pcap_read.proofs.Steps.{refusal_stays as lemma}
use Rattle.pcap_read.proofs.laws.refusal_stays.Goals as goal

pub returns : goal.returns
returns c = lemma
