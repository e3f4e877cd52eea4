use Rattle.flow_base.proofs.WritingLemmas.{writes_front, writes_then, stop, then_stop}
use Rattle.epoch_report.specs.EpochsText.{capture_lines}
use Rattle.epoch_report.proofs.write.write_capture.Goals as goal

pub returns-in_err-write_count-clause-writes : goal.returns-in_err-write_count-clause-writes
unfolding capture_lines
returns-in_err-write_count-clause-writes g c =
    writes_front _ _ _ _ c.from_residual.ensures.0 (stop _ (stop _ (stop _ c.in_err-write_count.ensures.writes.err)))

pub returns-in_err-write_count-2-clause-writes : goal.returns-in_err-write_count-2-clause-writes
unfolding capture_lines
returns-in_err-write_count-2-clause-writes g c =
    writes_front _ _ _ _ c.from_residual-in_err-write_count-2.ensures.0
    (stop _ (stop _ (then_stop c.in_ok-write_count.ensures.writes c.in_err-write_count-2.ensures.writes.err)))

pub returns-in_err-write_skipped-clause-writes : goal.returns-in_err-write_skipped-clause-writes
unfolding capture_lines
returns-in_err-write_skipped-clause-writes g c =
    writes_front _ _ _ _ c.from_residual-in_err-write_skipped.ensures.0
    (stop _ (then_stop (writes_then _ c.in_ok-write_count.ensures.writes c.in_ok-write_count-2.ensures.writes) c.in_err-write_skipped.ensures.writes.err))

pub returns-clause-writes : goal.returns-clause-writes
unfolding capture_lines
returns-clause-writes g c =
    writes_then _ (writes_then _ (writes_then _ c.in_ok-write_count.ensures.writes c.in_ok-write_count-2.ensures.writes) c.in_ok-write_skipped.ensures.writes) c.write_count-3.ensures.writes
