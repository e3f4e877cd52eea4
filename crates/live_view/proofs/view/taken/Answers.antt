use Rattle.std.proofs.Common.{◌≡◌, length, ap, ◌∙◌, arith}
use Rattle.live_view.specs.Views.{History}
use Rattle.live_view.proofs.Folds.{count_is}
use Rattle.live_view.proofs.view.taken.Goals as goal

pub begins-requires-clause-shorter : goal.begins-requires-clause-shorter
begins-requires-clause-shorter g c =
    let published = c.args.published.now in
    let told = c.args.told.now in
    let found : c.folded.result ≡ published.figures.folded = c.folded.ensures ∙ c.tally.ensures.folded in
    let most : c.folded-2.result ≡ length told.log = c.folded-2.ensures in
    let one : length c.prefix.result.now.log ≡ length told.log = ap (λ (s : History). length s.log) c.prefix.ensures in
    let two : length c.prefix-2.result.now.log ≡ length published.history.log = ap (λ (s : History). length s.log) c.prefix-2.ensures in
    let count = count_is g.K.Kind.rules published.figures published.history.log c.requires.sums in
    omega (arith, found, most, one, two, count, c.if-folded.false)
