use Rattle.flow_base.proofs.WritingLemmas.{writes_front, writes_then, stop, then_stop}
use Rattle.epoch_report.specs.EpochsText.{report_text}
use Rattle.epoch_report.proofs.write.write_epochs.Goals as goal

pub returns-in_err-write_words-clause-writes : goal.returns-in_err-write_words-clause-writes
unfolding report_text
returns-in_err-write_words-clause-writes g c =
    writes_front _ _ _ _ c.from_residual.ensures.0
    (stop _ (stop _ (stop _ (stop _ (stop _ c.in_err-write_words.ensures.writes.err)))))

pub returns-in_err-write_sketch-clause-writes : goal.returns-in_err-write_sketch-clause-writes
unfolding report_text
returns-in_err-write_sketch-clause-writes g c =
    writes_front _ _ _ _ c.from_residual-in_err-write_sketch.ensures.0
    (stop _ (stop _ (stop _ (stop _ (then_stop c.in_ok-write_words.ensures.writes c.in_err-write_sketch.ensures.writes.err)))))

pub returns-in_err-write_capture-clause-writes : goal.returns-in_err-write_capture-clause-writes
unfolding report_text
returns-in_err-write_capture-clause-writes g c =
    writes_front _ _ _ _ c.from_residual-in_err-write_capture.ensures.0
    (stop _ (stop _ (stop _ (then_stop (writes_then _ c.in_ok-write_words.ensures.writes c.in_ok-write_sketch.ensures.writes) c.in_err-write_capture.ensures.writes.err))))

pub returns-in_err-write_each-clause-writes : goal.returns-in_err-write_each-clause-writes
unfolding report_text
returns-in_err-write_each-clause-writes g c =
    writes_front _ _ _ _ c.from_residual-in_err-write_each.ensures.0
    (stop _ (stop _ (then_stop (writes_then _ (writes_then _ c.in_ok-write_words.ensures.writes c.in_ok-write_sketch.ensures.writes) c.in_ok-write_capture.ensures.writes) (rw c.as_slice.ensures at c.in_err-write_each.ensures.writes).err)))

pub returns-in_err-write_whole-clause-writes : goal.returns-in_err-write_whole-clause-writes
unfolding report_text
returns-in_err-write_whole-clause-writes g c =
    writes_front _ _ _ _ c.from_residual-in_err-write_whole.ensures.0
    (stop _ (then_stop (writes_then _ (writes_then _ (writes_then _ c.in_ok-write_words.ensures.writes c.in_ok-write_sketch.ensures.writes) c.in_ok-write_capture.ensures.writes) (rw c.as_slice.ensures at c.in_ok-write_each.ensures.writes)) c.in_err-write_whole.ensures.writes.err))

pub returns-clause-writes : goal.returns-clause-writes
unfolding report_text
returns-clause-writes g c =
    writes_then _ (writes_then _ (writes_then _ (writes_then _ (writes_then _ c.in_ok-write_words.ensures.writes c.in_ok-write_sketch.ensures.writes) c.in_ok-write_capture.ensures.writes) (rw c.as_slice.ensures at c.in_ok-write_each.ensures.writes)) c.in_ok-write_whole.ensures.writes) c.write_words-2.ensures.writes
