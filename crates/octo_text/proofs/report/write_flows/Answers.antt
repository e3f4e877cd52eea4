use Rattle.flow_base.proofs.WritingLemmas.{writes_front, writes_then, stop, then_stop}
use Rattle.octo_text.specs.ReportText.{flow_lines}
use Rattle.octo_text.proofs.report.write_flows.Goals as goal

pub returns-in_err-write_estimates-clause-writes : goal.returns-in_err-write_estimates-clause-writes
unfolding flow_lines
returns-in_err-write_estimates-clause-writes g c =
    writes_front _ _ _ _ c.from_residual.ensures.0
    (stop _ (stop _ (rw c.as_slice.ensures at c.in_err-write_estimates.ensures.writes).err))

pub returns-in_err-write_count-clause-writes : goal.returns-in_err-write_count-clause-writes
unfolding flow_lines
returns-in_err-write_count-clause-writes g c =
    writes_front _ _ _ _ c.from_residual-in_err-write_count.ensures.0
    (stop _ (then_stop (rw c.as_slice.ensures at c.in_ok-write_estimates.ensures.writes) c.in_err-write_count.ensures.writes.err))

pub returns-clause-writes : goal.returns-clause-writes
unfolding flow_lines
returns-clause-writes g c =
    writes_then _ (writes_then _ (rw c.as_slice.ensures at c.in_ok-write_estimates.ensures.writes) c.in_ok-write_count.ensures.writes) (rw c.as_slice-2.ensures at c.write_estimates-2.ensures.writes)
