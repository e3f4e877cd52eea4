use Rattle.flow_base.proofs.WritingLemmas.{writes_front, writes_then, stop}
use Rattle.epoch_report.specs.EpochsText.{change_lines}
use Rattle.epoch_report.proofs.changes.write_changes.Goals as goal

pub returns-in_err-write_count-clause-writes : goal.returns-in_err-write_count-clause-writes
unfolding change_lines
returns-in_err-write_count-clause-writes g c =
    writes_front _ _ _ _ c.from_residual.ensures.0 (stop _ c.in_err-write_count.ensures.writes.err)

pub returns-clause-writes : goal.returns-clause-writes
unfolding change_lines
returns-clause-writes g c =
    writes_then _ c.in_ok-write_count.ensures.writes (rw c.as_slice.ensures at c.write_each.ensures.writes)
