use Rattle.count_min.proofs.NeverBelow.{never_below}
use Rattle.count_min.proofs.laws.no_estimate_is_below.Goals as goal

pub returns : goal.returns
returns c = λ shape packets key lawful total. never_below shape lawful packets key total
