use Rattle.push_history.specs.Journal.{terms_of}
use Rattle.round_law.proofs.Wholes.{outcome_whole}
use Rattle.round_law.proofs.laws.outcome_is_whole.Goals as goal

pub returns : goal.returns
returns c = λ packets o. outcome_whole (terms_of packets o) o
