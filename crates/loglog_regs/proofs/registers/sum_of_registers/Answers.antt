use Rattle.std.proofs.Common.{rules, ◌≡◌, ◌+◌, ◌-◌, ◌^◌, ◌∙◌, ℕ, ℤ, pos, ap, ap₂, sym, get_or, arith, w64, FitsSigned}
use Rattle.std.specs.Prelude.{unsigned_abs}
use Rattle.std.proofs.lemmas.Int.{to_z-of_z}
use Rattle.std.proofs.lemmas.List.Sums.{sum_by_more}
use Rattle.hash_rows.specs.Sketches.{register_sum}
use Rattle.loglog_regs.proofs.registers.sum_of_registers.Goals as goal

pub loop-rank-preserved : goal.loop-rank-preserved
unfolding register_sum
loop-rank-preserved c =
    let cells = c.args.cells.now in
    let i = c.loop-rank.rank-index in
    let term : ℤ → ℕ = λ rank. 2 ^ (32 - unsigned_abs rank) in
    let fits : FitsSigned w64 (get_or cells i (pos 0)) = search rules in
    let weight : c.weight-sum.result ≡ term (get_or cells i (pos 0)) = c.weight-sum.ensures.weight ∙ ap term (to_z-of_z w64 (get_or cells i (pos 0)) fits) in
    let more = sum_by_more term cells i (pos 0) c.loop-rank-test.true in
    (ap₂ (λ x y. x + y) c.loop-rank.invariant.0 weight ∙ sym more, omega arith, omega arith)
