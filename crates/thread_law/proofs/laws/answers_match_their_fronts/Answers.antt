use Rattle.thread_law.proofs.Wholes.{ran_matches}
use Rattle.thread_law.proofs.laws.answers_match_their_fronts.Goals as goal

pub returns : goal.returns
returns c = ran_matches
