use Rattle.flow_base.proofs.WritingLemmas.{writes_front, writes_then, stop}
use Rattle.octo_text.specs.JournalText.{live_lines}
use Rattle.octo_text.proofs.journal.write_live.Goals as goal

pub returns-in_err-write_keys-clause-writes : goal.returns-in_err-write_keys-clause-writes
unfolding live_lines
returns-in_err-write_keys-clause-writes g c =
    writes_front _ _ _ _ c.from_residual.ensures.0
    (stop _ (rw c.as_slice.ensures at c.in_err-write_keys.ensures.writes).err)

pub returns-clause-writes : goal.returns-clause-writes
unfolding live_lines
returns-clause-writes g c =
    writes_then _ (rw c.as_slice.ensures at c.in_ok-write_keys.ensures.writes) c.write_count.ensures.writes
