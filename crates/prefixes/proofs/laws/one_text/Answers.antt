use Rattle.prefixes.proofs.Texts.{one_network}
use Rattle.prefixes.proofs.laws.one_text.Goals as goal

pub returns : goal.returns
returns c = one_network
