use Rattle.std.proofs.Common.{rules, ◌<◌, take, sym, subst, get_or, pos, w64}
use Rattle.std.specs.Prelude.{All}
use Rattle.std.proofs.lemmas.List.{take_all, take_more}
use Rattle.std.proofs.lemmas.Int.{to_z-of_z}
use lib.Signed.{mag}
use mir.Val.{SFits}
use Rattle.journal_whole.proofs.Rows.{all_more}
use Rattle.rounds_audit.proofs.ranges.estimates_fit.Goals as goal

pub loop-estimate-preserved : goal.loop-estimate-preserved
loop-estimate-preserved c =
    let x = get_or c.args.shown.now c.loop-estimate.estimate-index (pos 0) in
    let fits : SFits w64 x = search rules in
    subst (All (λ y. mag y < 9223372036854775808)) (sym (take_more c.args.shown.now c.loop-estimate.estimate-index (pos 0) c.loop-estimate-test.true))
    (all_more (λ y. mag y < 9223372036854775808) (take c.loop-estimate.estimate-index c.args.shown.now) x c.loop-estimate.invariant
    (subst (λ y. mag y < 9223372036854775808) (to_z-of_z w64 x fits) c.estimate_fits.ensures))

pub returns : goal.returns
returns c = subst (All (λ x. mag x < 9223372036854775808)) (take_all c.loop-estimate.estimate-index c.args.shown.now c.loop-estimate-test.false) c.loop-estimate.invariant
