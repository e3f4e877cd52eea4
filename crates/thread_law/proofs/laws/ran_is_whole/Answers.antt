use Rattle.thread_law.proofs.Wholes.{ran_whole}
use Rattle.thread_law.proofs.laws.ran_is_whole.Goals as goal

pub returns : goal.returns
returns c = ran_whole
