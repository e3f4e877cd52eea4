use Rattle.octo_run.proofs.OneAudit.{one_audit as lemma, one_verdict}
use Rattle.octo_run.proofs.laws.one_audit.Goals as goal

pub returns-clause-read : goal.returns-clause-read
returns-clause-read c = lemma

pub returns-clause-verdict : goal.returns-clause-verdict
returns-clause-verdict c = one_verdict
