use Rattle.octo_run.proofs.OneText.{one_report as lemma}
use Rattle.octo_run.proofs.laws.one_report.Goals as goal

pub returns : goal.returns
returns c = lemma
