use Rattle.thread_law.proofs.Nears.{answers_near}
use Rattle.thread_law.proofs.laws.answers_are_near.Goals as goal

pub returns : goal.returns
returns c = answers_near
