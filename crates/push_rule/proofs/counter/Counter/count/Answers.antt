use Rattle.std.proofs.Common.{rules, ◌≡◌, ◌≤◌, ◌∙◌, sym, subst, true, w64, ℤ}
use Rattle.std.specs.Prelude.{◌&&◌, nat_le}
use Rattle.std.proofs.lemmas.Int.{to_z-of_z}
use mir.Val.{SFits}
use Rattle.push_history.specs.LagRun.{updates_by, is_wait}
use Rattle.push_history.specs.Pushes.{distance_at}
use Rattle.push_history.specs.Updates.{update_at}
use Rattle.push_rule.specs.Counters.{in_lane}
use Rattle.push_rule.proofs.CounterSteps.{after_waits, distance_is, wait_of}
use Rattle.push_rule.proofs.counter.Counter.count.Goals as goal

pub returns-then-waits_with-clause-keeps : goal.returns-then-waits_with-clause-keeps
returns-then-waits_with-clause-keeps g c = λ t w x same keeps lt at.
    let fits : SFits w64 c.args.value = search rules in
    let at_value = subst (λ (v : ℤ). update_at (updates_by t w) x.counted ≡ record { packet = c.args.packet; key = c.args.key.now; cell = c.args.cell; value = v })
    (sym (to_z-of_z w64 c.args.value fits)) at in
    let waits : (is_wait c.args.self.now.full && (nat_le c.args.self.now.lane (in_lane c.args.self.now) && nat_le t.threshold (distance_at t.rules (updates_by t w) x.sent x.counted))) ≡ true =
    sym (c.waits_with.ensures t w x same keeps lt at_value) ∙ c.if-waits_with.true in
    let all = wait_of c.args.self.now.full c.args.self.now.lane (in_lane c.args.self.now) t.threshold _ waits in
    let far = subst (λ n. t.threshold ≤ n) (distance_is g.K.Kind.stands t w _ x (record { packet = c.args.packet; key = c.args.key.now; cell = c.args.cell; value = c.args.value }) keeps lt at) all.1.1 in
    after_waits g.K.Kind.stands t w _ x (record { packet = c.args.packet; key = c.args.key.now; cell = c.args.cell; value = c.args.value }) keeps lt at far all.1.0 (sym keeps.full ∙ all.0)
