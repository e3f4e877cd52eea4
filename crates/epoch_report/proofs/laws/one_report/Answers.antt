use Rattle.epoch_report.proofs.OneReport.{one_report as lemma}
use Rattle.epoch_report.proofs.laws.one_report.Goals as goal

pub returns : goal.returns
returns c = lemma
