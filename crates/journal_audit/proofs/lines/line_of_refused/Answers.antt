use Rattle.journal_audit.proofs.LineCases.{refused_line_is}
use Rattle.journal_audit.proofs.lines.line_of_refused.Goals as goal

pub returns : goal.returns
returns c =
    refused_line_is c.args.journal.now c.args.worker c.args.update c.line_of_worker.result c.count_runs_until-runs.result c.get.result.now c.get.ensures
    c.line_of_worker.ensures.line c.count_runs_until-runs.ensures.count
