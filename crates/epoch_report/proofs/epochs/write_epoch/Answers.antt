use Rattle.flow_base.proofs.WritingLemmas.{writes_front, writes_then, stop, then_stop}
use Rattle.epoch_report.specs.EpochsText.{epoch_lines}
use Rattle.epoch_report.proofs.epochs.write_epoch.Goals as goal

pub returns-in_err-write_head-clause-writes : goal.returns-in_err-write_head-clause-writes
unfolding epoch_lines
returns-in_err-write_head-clause-writes g c =
    writes_front _ _ _ _ c.from_residual.ensures.0 (stop _ (stop _ (stop _ c.in_err-write_head.ensures.writes.err)))

pub returns-in_err-write_rows-clause-writes : goal.returns-in_err-write_rows-clause-writes
unfolding epoch_lines
returns-in_err-write_rows-clause-writes g c =
    writes_front _ _ _ _ c.from_residual-in_err-write_rows.ensures.0
    (stop _ (stop _ (then_stop c.in_ok-write_head.ensures.writes (rw c.as_slice.ensures at c.in_err-write_rows.ensures.writes).err)))

pub returns-in_err-write_flows-clause-writes : goal.returns-in_err-write_flows-clause-writes
unfolding epoch_lines
returns-in_err-write_flows-clause-writes g c =
    writes_front _ _ _ _ c.from_residual-in_err-write_flows.ensures.0
    (stop _ (then_stop (writes_then _ c.in_ok-write_head.ensures.writes (rw c.as_slice.ensures at c.in_ok-write_rows.ensures.writes)) c.in_err-write_flows.ensures.writes.err))

pub returns-clause-writes : goal.returns-clause-writes
unfolding epoch_lines
returns-clause-writes g c =
    writes_then _ (writes_then _ (writes_then _ c.in_ok-write_head.ensures.writes (rw c.as_slice.ensures at c.in_ok-write_rows.ensures.writes)) c.in_ok-write_flows.ensures.writes) c.write_since.ensures.writes
