use Rattle.flow_base.proofs.WritingLemmas.{writes_front, writes_then, stop}
use Rattle.prefix_report.specs.PrefixText.{hit_lines}
use Rattle.prefix_report.proofs.levels.write_hits.Goals as goal

pub returns-in_err-write_heavy-clause-writes : goal.returns-in_err-write_heavy-clause-writes
unfolding hit_lines
returns-in_err-write_heavy-clause-writes g c =
    writes_front _ _ _ _ c.from_residual.ensures.0 (stop _ (rw c.count_of.ensures at c.in_err-write_heavy.ensures.writes).err)

pub returns-clause-writes : goal.returns-clause-writes
unfolding hit_lines
returns-clause-writes g c =
    writes_then _ (rw c.count_of.ensures at c.in_ok-write_heavy.ensures.writes) c.write_networks.ensures.writes
