use Rattle.flow_base.proofs.WritingLemmas.{writes_front, writes_then, stop, then_stop}
use Rattle.prefix_report.specs.PrefixText.{level_lines}
use Rattle.prefix_report.proofs.levels.write_level.Goals as goal

pub returns-in_err-write_count-clause-writes : goal.returns-in_err-write_count-clause-writes
unfolding level_lines
returns-in_err-write_count-clause-writes g c =
    writes_front _ _ _ _ c.from_residual.ensures.0 (stop _ (stop _ (stop _ (rw c.from.ensures at c.in_err-write_count.ensures.writes).err)))

pub returns-in_err-write_answers-clause-writes : goal.returns-in_err-write_answers-clause-writes
unfolding level_lines
returns-in_err-write_answers-clause-writes g c =
    writes_front _ _ _ _ c.from_residual-in_err-write_answers.ensures.0
    (stop _ (stop _ (then_stop (rw c.from.ensures at c.in_ok-write_count.ensures.writes) (rw c.as_slice.ensures at c.in_err-write_answers.ensures.writes).err)))

pub returns-in_err-write_networks-clause-writes : goal.returns-in_err-write_networks-clause-writes
unfolding level_lines
returns-in_err-write_networks-clause-writes g c =
    writes_front _ _ _ _ c.from_residual-in_err-write_networks.ensures.0
    (stop _ (then_stop (writes_then _ (rw c.from.ensures at c.in_ok-write_count.ensures.writes) (rw c.as_slice.ensures at c.in_ok-write_answers.ensures.writes)) (rw c.as_slice-2.ensures at c.in_err-write_networks.ensures.writes).err))

pub returns-clause-writes : goal.returns-clause-writes
unfolding level_lines
returns-clause-writes g c =
    writes_then _ (writes_then _ (writes_then _ (rw c.from.ensures at c.in_ok-write_count.ensures.writes) (rw c.as_slice.ensures at c.in_ok-write_answers.ensures.writes)) (rw c.as_slice-2.ensures at c.in_ok-write_networks.ensures.writes)) (rw c.as_slice-3.ensures at c.write_hits.ensures.writes)
