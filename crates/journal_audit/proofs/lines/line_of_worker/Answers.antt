use Rattle.std.proofs.Common.{◌+◌, ◌∙◌, ℕ, map, take, ap}
use Rattle.std.specs.Prelude.{sum}
use Rattle.hash_rows.specs.Marks.{marked}
use Rattle.audit_law.specs.LineNumbers.{lines_of_worker}
use Rattle.journal_audit.proofs.LineCases.{worker_line_is}
use Rattle.journal_audit.proofs.lines.line_of_worker.Goals as goal

pub returns-clause-line : goal.returns-clause-line
returns-clause-line c =
    let rows = take c.args.worker c.as_slice.result.now in
    c.line_behind.ensures.line
    ∙ ap (λ (n : ℕ). 3 + n + sum (map lines_of_worker (map marked rows))) c.len.ensures
    ∙ worker_line_is c.args.journal.now c.args.worker rows (ap (take c.args.worker) c.as_slice.ensures)
