use Rattle.given_law.proofs.Determined.{lawful_given}
use Rattle.given_law.proofs.laws.lawful_is_given.Goals as goal

pub returns : goal.returns
returns c = lawful_given
