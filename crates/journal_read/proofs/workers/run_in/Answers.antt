use Rattle.std.proofs.Common.{◌∙◌, ◌++◌, refl, codes}
use Rattle.std.specs.Fmt.{decimal}
use Rattle.journal_read.proofs.Grouped.{run_grouped}
use Rattle.journal_read.proofs.workers.run_in.Goals as goal

pub returns : goal.returns
returns c = λ w a b fit₁ fit₂ fit₃ is.
    let first = c.number_behind-worker.ensures w (codes " " ++ (decimal a ++ (codes "-" ++ (decimal b ++ codes "\n")))) fit₁ refl (is ∙ run_grouped w a b) in
    let second = c.number_behind-first.ensures a (codes "-" ++ (decimal b ++ codes "\n")) fit₂ refl first.1 in
    let third = c.number_behind-last.ensures b (codes "\n") fit₃ refl second.1 in
    cc (first.0, second.0, third.0)
