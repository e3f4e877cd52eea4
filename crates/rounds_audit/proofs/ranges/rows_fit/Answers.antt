use Rattle.std.proofs.Common.{◌<◌, ◌^◌, List, Bool, length, take, sym, subst, get_or}
use Rattle.std.specs.Prelude.{All}
use Rattle.std.proofs.lemmas.List.{take_all, take_more}
use Rattle.journal_whole.proofs.Rows.{all_more}
use Rattle.rounds_audit.proofs.ranges.rows_fit.Goals as goal

pub loop-bits-preserved : goal.loop-bits-preserved
loop-bits-preserved c =
    let its = subst (λ (b : List Bool). length b < 2 ^ 32) c.bits-item.is c.bits_fit.ensures in
    subst (All (λ (b : List Bool). length b < 2 ^ 32)) (sym (take_more c.args.rows.now c.loop-bits.bits-index c.bits-item.result c.loop-bits-test.true))
    (all_more (λ (b : List Bool). length b < 2 ^ 32) (take c.loop-bits.bits-index c.args.rows.now) (get_or c.args.rows.now c.loop-bits.bits-index c.bits-item.result) c.loop-bits.invariant its)

pub returns : goal.returns
returns c = subst (All (λ (b : List Bool). length b < 2 ^ 32)) (take_all c.loop-bits.bits-index c.args.rows.now c.loop-bits-test.false) c.loop-bits.invariant
