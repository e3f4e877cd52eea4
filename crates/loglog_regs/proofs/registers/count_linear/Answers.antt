use Rattle.std.proofs.Common.{◌≤◌, ◌+◌, ◌*◌, ◌/◌, ◌∙◌, ℕ, sym, ap, arith}
use Rattle.std.proofs.lemmas.List.FromFn.{sum_by-map-range_with_len_more}
use Rattle.std.proofs.Math.Nat.{div-le_self}
use Rattle.loglog_regs.proofs.registers.count_linear.Goals as goal

pub loop-step-preserved : goal.loop-step-preserved
loop-step-preserved c =
    let m = c.from-registers.result in
    let term : ℕ → ℕ = λ i. m * 65536 / i in
    let start = c.args.zeros + 1 in
    let step = c.loop-step.step in
    let more = sum_by-map-range_with_len_more (λ x. x) term start step (start + step) (omega arith) in
    let most : term (start + step) ≤ m * 65536 = div-le_self (m * 65536) (start + step) in
    (ap (λ x. x + term (start + step)) c.loop-step.invariant.0 ∙ sym more, omega arith)
