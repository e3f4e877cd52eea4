use Rattle.std.proofs.Common.{rules, arith, ◌≡◌, ◌<◌, length, pos, get_or, false, sym, to_z, of_z, w64}
use Rattle.std.specs.Ordering.{int_eq}
use Rattle.push_history.specs.Share.{zero_key}
use Rattle.audit_law.proofs.Failing.{all_pass}
use Rattle.answer_audit.specs.Answered.{shown_test}
use Rattle.answer_audit.proofs.Placed.{shown_fails}
use Rattle.answer_audit.proofs.shown.shown_failure.Goals as goal

pub returns-then-kept-lawful : goal.returns-then-kept-lawful
returns-then-kept-lawful g c =
    let place = c.loop-place.place in
    let lt : place < length c.args.keys.now = search rules in
    let kept = to_z w64 (of_z w64 (get_or c.args.shown.now place (pos 0))) in
    let lawful = to_z w64 (of_z w64 c.estimate-lawful.result) in
    let is : kept ≡ get_or c.args.shown.now place (pos 0) = search rules in
    let said : lawful ≡ g.K.Kind.rules.estimate c.args.table.now.shape c.args.table.now.cells (get_or c.args.keys.now place zero_key) = search rules in
    let differ : int_eq kept lawful ≡ false = search rules in
    shown_fails c.args.line g.K.Kind.rules c.args.table.now c.args.keys.now c.args.shown.now place kept lawful lt c.loop-place.invariant is said differ

pub returns : goal.returns
returns g c =
    let end : c.loop-place.place ≡ length c.args.keys.now = grind arith in
    let all = c.loop-place.invariant in
    sym (all_pass (shown_test c.args.line g.K.Kind.rules c.args.table.now c.args.keys.now c.args.shown.now) (length c.args.keys.now)
    (λ k lt. all k (omega (arith, lt, end))))
