use Rattle.std.proofs.Common.{◌∙◌, ◌++◌, refl, codes, arith}
use Rattle.std.specs.Fmt.{decimal}
use Rattle.journal_read.proofs.Grouped.{share_grouped}
use Rattle.journal_read.proofs.options.share_in.Goals as goal

pub returns : goal.returns
returns c = λ o rest law stop is.
    let share = c.share_behind-share.ensures o.share (codes " workers " ++ (decimal o.workers ++ (codes " threshold " ++ (decimal o.threshold ++ rest)))) (is ∙ share_grouped o rest) in
    let workers = c.small_behind-workers.ensures o.workers (codes " threshold " ++ (decimal o.threshold ++ rest)) (omega (arith, law.workers)) refl share.1 in
    let threshold = c.number_behind-threshold.ensures o.threshold rest (omega (arith, law.threshold)) stop workers.1 in
    (record { share = share.0; workers = workers.0; threshold = threshold.0 }, threshold.1)
