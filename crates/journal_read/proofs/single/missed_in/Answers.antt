use Rattle.std.proofs.Common.{◌∙◌, refl, codes}
use Rattle.journal_read.proofs.Grouped.{missed_grouped}
use Rattle.journal_read.proofs.single.missed_in.Goals as goal

pub returns : goal.returns
returns c = λ n fits is. (c.number_behind.ensures n (codes "\n") fits refl (is ∙ missed_grouped n)).0
