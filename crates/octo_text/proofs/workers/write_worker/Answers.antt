use Rattle.std.proofs.Common.{◌≡◌, length, sym, ◌∙◌}
use Rattle.flow_base.proofs.WritingLemmas.{writes_front, writes_then, stop}
use Rattle.hash_rows.specs.Marks.{marked}
use Rattle.octo_text.specs.JournalText.{worker_lines}
use Rattle.octo_text.proofs.RunLemmas.{length-marked}
use Rattle.octo_text.proofs.workers.write_worker.Goals as goal

pub returns-in_err-write_tally-clause-writes : goal.returns-in_err-write_tally-clause-writes
unfolding worker_lines
returns-in_err-write_tally-clause-writes g c =
    let refused : c.count.result ≡ length (marked c.args.refused.now) = c.count.ensures ∙ sym (length-marked c.args.refused.now 0) in
    writes_front _ _ _ _ c.from_residual.ensures.0 (stop _ (rw refused at c.in_err-write_tally.ensures.writes).err)

pub returns-clause-writes : goal.returns-clause-writes
unfolding worker_lines
returns-clause-writes g c =
    let refused : c.count.result ≡ length (marked c.args.refused.now) = c.count.ensures ∙ sym (length-marked c.args.refused.now 0) in
    writes_then _ (rw refused at c.in_ok-write_tally.ensures.writes) c.write_runs.ensures.writes
