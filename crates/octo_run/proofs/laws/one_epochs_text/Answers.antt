use Rattle.std.proofs.Common.{◌∙◌, sym}
use Rattle.octo_run.proofs.OneEpochs.{same_capture}
use Rattle.octo_run.proofs.laws.one_epochs_text.Goals as goal

pub returns : goal.returns
returns c = λ size change o p bytes s t ask a b.
    let report = same_capture size change o p bytes s t ask.amount a b in
    a.text_is ∙ c.one_report.ensures _ _ _ _ size change o p a.report b.report ask a.report_is report ∙ sym b.text_is
