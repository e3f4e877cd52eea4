use Rattle.std.proofs.Common.{◌∙◌, sym, ap}
use Rattle.octo_text.specs.JournalText.{worker_line}
use Rattle.journal_read.specs.declared.workers.WorkerLine.{WorkerLine}
use Rattle.journal_read.proofs.workers.read_worker.Goals as goal

pub returns-else-is_worker-clause-line : goal.returns-else-is_worker-clause-line
returns-else-is_worker-clause-line c = λ w p r fit₁ fit₂ fit₃ same.
    c.is_worker.ensures.no c.if-is_worker.false
    (same ∙ sym (ap (λ (s : WorkerLine). worker_line s.worker s.pushes s.refused) (c.worker_in-said.ensures w p r fit₁ fit₂ fit₃ same)))
