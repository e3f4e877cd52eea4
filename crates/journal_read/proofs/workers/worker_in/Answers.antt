use Rattle.std.proofs.Common.{◌∙◌, ◌++◌, refl, codes}
use Rattle.std.specs.Fmt.{decimal}
use Rattle.journal_read.proofs.Grouped.{worker_grouped}
use Rattle.journal_read.proofs.workers.worker_in.Goals as goal

pub returns : goal.returns
returns c = λ w p r fit₁ fit₂ fit₃ is.
    let first = c.number_behind-worker.ensures w (codes " pushes " ++ (decimal p ++ (codes " refused " ++ (decimal r ++ codes "\n")))) fit₁ refl (is ∙ worker_grouped w p r) in
    let second = c.number_behind-pushes.ensures p (codes " refused " ++ (decimal r ++ codes "\n")) fit₂ refl first.1 in
    let third = c.number_behind-refused.ensures r (codes "\n") fit₃ refl second.1 in
    cc (first.0, second.0, third.0)
