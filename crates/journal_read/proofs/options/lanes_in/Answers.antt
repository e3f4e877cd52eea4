use Rattle.std.proofs.Common.{◌∙◌, ◌++◌, refl, codes, arith}
use Rattle.std.specs.Fmt.{decimal}
use Rattle.hash_rows.specs.OptionTexts.{full_text}
use Rattle.journal_read.proofs.Grouped.{lanes_grouped, behind_batch}
use Rattle.journal_read.proofs.options.lanes_in.Goals as goal

pub returns : goal.returns
returns c = λ o rest law is.
    let lane = c.small_behind-lane.ensures o.lane (codes " batch " ++ (decimal o.batch ++ behind_batch o rest)) (omega (arith, law.lane)) refl (is ∙ lanes_grouped o rest) in
    let batch = c.small_behind-batch.ensures o.batch (behind_batch o rest) (omega (arith, law.batch)) refl lane.1 in
    let round = c.small_behind-round.ensures o.round (codes " full " ++ (full_text o.full ++ rest)) (omega (arith, law.round)) refl batch.1 in
    let full = c.full_behind-full.ensures o.full rest round.1 in
    (record { lane = lane.0; batch = batch.0; round = round.0; full = full.0 }, full.1)
