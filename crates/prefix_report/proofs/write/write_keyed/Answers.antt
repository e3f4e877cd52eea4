use Rattle.flow_base.proofs.WritingLemmas.{writes_front, writes_then, stop, then_stop}
use Rattle.prefix_report.specs.PrefixText.{keyed_lines}
use Rattle.prefix_report.proofs.write.write_keyed.Goals as goal

pub returns-in_err-write_count-clause-writes : goal.returns-in_err-write_count-clause-writes
unfolding keyed_lines
returns-in_err-write_count-clause-writes g c =
    writes_front _ _ _ _ c.from_residual.ensures.0 (stop _ (stop _ c.in_err-write_count.ensures.writes.err))

pub returns-in_err-write_count-2-clause-writes : goal.returns-in_err-write_count-2-clause-writes
unfolding keyed_lines
returns-in_err-write_count-2-clause-writes g c =
    writes_front _ _ _ _ c.from_residual-in_err-write_count-2.ensures.0
    (stop _ (then_stop c.in_ok-write_count.ensures.writes c.in_err-write_count-2.ensures.writes.err))

pub returns-clause-writes : goal.returns-clause-writes
unfolding keyed_lines
returns-clause-writes g c =
    writes_then _ (writes_then _ c.in_ok-write_count.ensures.writes c.in_ok-write_count-2.ensures.writes) c.write_count-3.ensures.writes
