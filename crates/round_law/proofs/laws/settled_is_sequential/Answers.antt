use Rattle.round_law.proofs.Settled.{settled_sequential}
use Rattle.round_law.proofs.laws.settled_is_sequential.Goals as goal

pub returns : goal.returns
returns c = λ packets o rounds lawful small idle cell _. settled_sequential packets o rounds lawful small idle cell
