use Rattle.std.proofs.Common.{subst}
use Rattle.octo_run.specs.Audits.{IsJudged}
use Rattle.octo_run.proofs.Audited.{judged_lawful, judged_unlawful}
use Rattle.octo_run.proofs.audit.audit.Goals as goal

pub returns-in-Ok-Unlawful-clause-reason : goal.returns-in-Ok-Unlawful-clause-reason
returns-in-Ok-Unlawful-clause-reason g c =
    let by = c.in-Ok-Unlawful.ensures in (
      tt,
      (λ given rest told left.
          let j = by.judged given rest told left in
          (j.0, judged_unlawful given c.in-Ok-Unlawful.line c.in-Ok-Unlawful.kept c.in-Ok-Unlawful.lawful (subst (IsJudged given) c.in-Ok-Unlawful.field-0-is j.1))),
      by.accepted,
    )

pub returns-in-Err-clause-reason : goal.returns-in-Err-clause-reason
returns-in-Err-clause-reason g c = c.in-Err.ensures.reason _ _

pub returns-in-Err-write_all-clause-reason : goal.returns-in-Err-write_all-clause-reason
returns-in-Err-write_all-clause-reason g c =
    let by = c.in-Ok-Lawful.ensures in (
      c.in-Err-write_all.ensures.cause.failed,
      (λ given rest told left.
          let j = by.judged given rest told left in
          (j.0, _, judged_lawful given (subst (IsJudged given) c.in-Ok-Lawful.field-0-is j.1), c.in-Err-write_all.ensures.err)),
      by.accepted,
    )

pub returns-in-Ok-clause-done : goal.returns-in-Ok-clause-done
returns-in-Ok-clause-done g c = λ given rest told left.
    let j = c.in-Ok-Lawful.ensures.judged given rest told left in
    (j.0, _, judged_lawful given (subst (IsJudged given) c.in-Ok-Lawful.field-0-is j.1), c.in-Ok.ensures.ok)
