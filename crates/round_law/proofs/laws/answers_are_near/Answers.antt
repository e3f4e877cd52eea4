use Rattle.round_law.proofs.Near.{answers_near}
use Rattle.round_law.proofs.laws.answers_are_near.Goals as goal

pub returns : goal.returns
returns c = answers_near
