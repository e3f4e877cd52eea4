use Rattle.flow_base.proofs.WritingLemmas.{writes_front, writes_then, stop}
use Rattle.epoch_report.specs.EpochsText.{whole_lines}
use Rattle.epoch_report.proofs.write.write_whole.Goals as goal

pub returns-in_err-write_whole_line-clause-writes : goal.returns-in_err-write_whole_line-clause-writes
unfolding whole_lines
returns-in_err-write_whole_line-clause-writes g c =
    writes_front _ _ _ _ c.from_residual.ensures.0 (stop _ c.in_err-write_whole_line.ensures.writes.err)

pub returns-clause-writes : goal.returns-clause-writes
unfolding whole_lines
returns-clause-writes g c =
    writes_then _ c.in_ok-write_whole_line.ensures.writes (rw c.as_slice.ensures at c.write_rows.ensures.writes)
