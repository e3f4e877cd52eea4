use Rattle.given_law.proofs.Determined.{given_lawful}
use Rattle.given_law.proofs.laws.given_is_lawful.Goals as goal

pub returns : goal.returns
returns c = λ r w T L full U F may. given_lawful r w T U F L full may
