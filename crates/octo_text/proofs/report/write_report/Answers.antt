use Rattle.flow_base.proofs.WritingLemmas.{writes_front, writes_then, stop, then_stop}
use Rattle.octo_text.specs.ReportText.{report_text, sketch_line}
use Rattle.octo_text.proofs.report.write_report.Goals as goal

pub returns-in_err-write_words-clause-writes : goal.returns-in_err-write_words-clause-writes
unfolding report_text sketch_line
returns-in_err-write_words-clause-writes g c =
    writes_front _ _ _ _ c.from_residual.ensures.0
    (stop _ (stop _ (stop _ (stop _ (stop _ c.in_err-write_words.ensures.writes.err)))))

pub returns-in_err-write_sketch-clause-writes : goal.returns-in_err-write_sketch-clause-writes
unfolding report_text sketch_line
returns-in_err-write_sketch-clause-writes g c =
    writes_front _ _ _ _ c.from_residual-in_err-write_sketch.ensures.0
    (stop _ (stop _ (stop _ (stop _ (then_stop c.in_ok-write_words.ensures.writes c.in_err-write_sketch.ensures.writes.err)))))

pub returns-in_err-write_capture-clause-writes : goal.returns-in_err-write_capture-clause-writes
unfolding report_text sketch_line
returns-in_err-write_capture-clause-writes g c =
    writes_front _ _ _ _ c.from_residual-in_err-write_capture.ensures.0
    (stop _ (stop _ (stop _ (then_stop (writes_then _ c.in_ok-write_words.ensures.writes c.in_ok-write_sketch.ensures.writes) c.in_err-write_capture.ensures.writes.err))))

pub returns-in_err-write_table-clause-writes : goal.returns-in_err-write_table-clause-writes
unfolding report_text sketch_line
returns-in_err-write_table-clause-writes g c =
    writes_front _ _ _ _ c.from_residual-in_err-write_table.ensures.0
    (stop _ (stop _ (then_stop (writes_then _ (writes_then _ c.in_ok-write_words.ensures.writes c.in_ok-write_sketch.ensures.writes) c.in_ok-write_capture.ensures.writes) c.in_err-write_table.ensures.writes.err)))

pub returns-in_err-write_findings-clause-writes : goal.returns-in_err-write_findings-clause-writes
unfolding report_text sketch_line
returns-in_err-write_findings-clause-writes g c =
    writes_front _ _ _ _ c.from_residual-in_err-write_findings.ensures.0
    (stop _ (then_stop (writes_then _ (writes_then _ (writes_then _ c.in_ok-write_words.ensures.writes c.in_ok-write_sketch.ensures.writes) c.in_ok-write_capture.ensures.writes) c.in_ok-write_table.ensures.writes) c.in_err-write_findings.ensures.writes.err))

pub returns-clause-writes : goal.returns-clause-writes
unfolding report_text sketch_line
returns-clause-writes g c =
    writes_then _ (writes_then _ (writes_then _ (writes_then _ (writes_then _ c.in_ok-write_words.ensures.writes c.in_ok-write_sketch.ensures.writes) c.in_ok-write_capture.ensures.writes) c.in_ok-write_table.ensures.writes) c.in_ok-write_findings.ensures.writes) c.write_words-2.ensures.writes
