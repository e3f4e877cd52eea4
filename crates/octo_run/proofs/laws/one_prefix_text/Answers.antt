use Rattle.octo_run.proofs.OneNetworks.{one_prefix_text as lemma}
use Rattle.octo_run.proofs.laws.one_prefix_text.Goals as goal

pub returns : goal.returns
returns c = lemma
