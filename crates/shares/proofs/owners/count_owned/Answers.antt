use Rattle.std.proofs.Common.{◌==◌, ℕ, Bool, ap, arith, slice_index_or, if◌then◌else◌}
use Rattle.std.proofs.lemmas.Option.{get_or_from_slice_get}
use Rattle.shares.proofs.Owning.{count_more, at_most_one}
use Rattle.shares.proofs.owners.count_owned.Goals as goal

pub loop-position-preserved : goal.loop-position-preserved
loop-position-preserved c =
    let p : ℕ → Bool = λ i. slice_index_or c.args.owners.now.items i 0 == c.args.worker in
    let here = get_or_from_slice_get c.args.owners.now.items c.loop-position.position c.get-owner.result.now 0 c.get-owner.ensures in
    let one = c.owned-count.ensures in
    let same = ap {B = ℕ} (λ z. if z == c.args.worker then 1 else 0) here in
    let more = count_more p c.loop-position.position in
    let most = at_most_one (c.get-owner.result.now == c.args.worker) in
    let was = c.loop-position.invariant in
    (omega (arith, was.0, one, same, more), omega (arith, was.1, one, most))
