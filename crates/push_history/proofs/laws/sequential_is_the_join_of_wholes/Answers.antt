use Rattle.push_history.proofs.Sharing.{sequential_is_wholes}
use Rattle.push_history.proofs.laws.sequential_is_the_join_of_wholes.Goals as goal

pub returns : goal.returns
returns c = λ r laws sharing workers shape packets some small cell. sequential_is_wholes r laws sharing workers shape packets cell some small
