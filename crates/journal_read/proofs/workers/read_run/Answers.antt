use Rattle.std.proofs.Common.{◌∙◌, sym, ap}
use Rattle.octo_text.specs.JournalText.{run_line}
use Rattle.journal_read.specs.declared.workers.RunLine.{RunLine}
use Rattle.journal_read.proofs.workers.read_run.Goals as goal

pub returns-else-is_run-clause-line : goal.returns-else-is_run-clause-line
returns-else-is_run-clause-line c = λ w a b fit₁ fit₂ fit₃ same.
    c.is_run.ensures.no c.if-is_run.false
    (same ∙ sym (ap (λ (s : RunLine). run_line s.worker (s.first, s.last)) (c.run_in-said.ensures w a b fit₁ fit₂ fit₃ same)))
