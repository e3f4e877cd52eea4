use Rattle.push_history.specs.Journal.{terms_of}
use Rattle.push_history.proofs.Fitting.{terms_len}
use Rattle.round_law.proofs.Wholes.{fronts_match}
use Rattle.round_law.proofs.laws.answers_match_their_fronts.Goals as goal

pub returns : goal.returns
returns c = λ packets o rounds bits pushes answers live missed _ _ h events schedule.
    fronts_match (terms_of packets o) o (terms_len packets o) rounds bits pushes answers live missed h events schedule
