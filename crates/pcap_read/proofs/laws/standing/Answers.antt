use Rattle.pcap_read.proofs.Exact.{stood_fine, stood_count}
use Rattle.pcap_read.proofs.laws.standing.Goals as goal

pub returns-clause-fine : goal.returns-clause-fine
returns-clause-fine c = stood_fine

pub returns-clause-count : goal.returns-clause-count
returns-clause-count c = stood_count
