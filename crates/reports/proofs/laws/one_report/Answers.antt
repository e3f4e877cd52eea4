use Rattle.reports.proofs.OneReport.{one_report as lemma}
use Rattle.reports.proofs.laws.one_report.Goals as goal

pub returns : goal.returns
returns c = lemma
