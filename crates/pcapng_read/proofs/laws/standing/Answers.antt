use Rattle.pcapng_read.proofs.Exact.{stood_fine}
use Rattle.pcapng_read.proofs.laws.standing.Goals as goal

pub returns : goal.returns
returns c = stood_fine
