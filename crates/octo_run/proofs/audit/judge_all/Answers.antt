use Rattle.std.proofs.Common.{rules}
use Rattle.std.proofs.lemmas.Result.{IfErr-weaker}
use Rattle.octo_run.proofs.Audited.{same_reason}
use Rattle.octo_run.proofs.audit.judge_all.Goals as goal

pub returns-clause-reason : goal.returns-clause-reason
returns-clause-reason g c =
    IfErr-weaker c.judge.result _ _ (λ fault by out out'.
    same_reason g.S.Source.left g.S.Source.faults c.new-ahead.result.source.now c.args.source.now c.judge.new.source.source.now c.source-1.given.0
    c.new-ahead.ensures.source (search rules) out out' fault (by out out')) c.judge.ensures.reason
