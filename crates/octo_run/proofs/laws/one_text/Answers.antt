use Rattle.octo_run.proofs.OneText.{one_text as lemma}
use Rattle.octo_run.proofs.laws.one_text.Goals as goal

pub returns : goal.returns
returns c = lemma
