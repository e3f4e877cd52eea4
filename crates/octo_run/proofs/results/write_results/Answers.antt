use Rattle.std.proofs.Common.{Bool, ap, sym}
use Rattle.flow_base.proofs.WritingLemmas.{writes_front, writes_then, stop}
use Rattle.push_history.specs.Journal.{journal_of_lists}
use Rattle.octo_run.specs.Results.{asked_text, results_text}
use Rattle.octo_run.proofs.results.write_results.Goals as goal

pub returns-in_err-write_report-clause-writes : goal.returns-in_err-write_report-clause-writes
unfolding results_text
returns-in_err-write_report-clause-writes g c =
    writes_front _ _ _ _ c.from_residual.ensures.0 (stop _ c.in_err-write_report.ensures.writes.err)

pub returns-clause-writes : goal.returns-clause-writes
unfolding results_text
returns-clause-writes g c =
    let text = ap (λ (b : Bool). asked_text b (journal_of_lists c.args.options.now c.args.results.now.lists)) c.if-not-options.false in
    writes_then c.write_journal_in.result c.in_ok-write_report.ensures.writes (rw (sym text) at c.write_journal_in.ensures.writes)
