use Rattle.std.proofs.Common.{rules, ◌≡◌, ◌∙◌, sym, ap, subst, true, arith, w64}
use Rattle.std.specs.Prelude.{nat_le}
use Rattle.std.proofs.lemmas.Int.{to_z-of_z}
use mir.Val.{SFits}
use Rattle.push_history.specs.LagRun.{updates_by, is_wait}
use Rattle.push_history.specs.Pushes.{distance_at}
use Rattle.push_rule.specs.Counters.{CounterView, in_lane}
use Rattle.push_rule.specs.Keeps.{Keeps}
use Rattle.push_rule.proofs.CounterSteps.{due_is, waits_where}
use Rattle.push_rule.proofs.counter.Counter.waits_with.Goals as goal

pub returns-then-self-held : goal.returns-then-self-held
returns-then-self-held g c = λ t w x same keeps lt at.
    let fits : SFits w64 c.args.value = search rules in
    let inner = subst (λ (d : CounterView g.row.K-Held.Denot). Keeps g.K.Kind.stands t w d x) (sym c.self.view_is) keeps in
    let full : is_wait c.args.self.now.full ≡ true = ap (λ (d : CounterView g.row.K-Held.Denot). is_wait d.full) (sym c.self.view_is) ∙ ap is_wait c.in-Wait.is in
    let lane : c.args.self.now.lane ≡ c.self.inside.lane = ap (λ (d : CounterView g.row.K-Held.Denot). d.lane) (sym c.self.view_is) in
    let filled : nat_le c.args.self.now.lane (in_lane c.args.self.now) ≡ true = grind (arith, c.if-self-held.true, c.held.ensures, lane) in
    let due = due_is g.K.Kind.stands t w _ x (record { packet = c.args.packet; key = c.args.key.now; cell = c.args.cell; value = c.args.value }) inner lt at g.K.Kind.rules same _ (to_z-of_z w64 c.args.value fits) c.due_with.result c.due_with.ensures.stands in
    due ∙ waits_where (is_wait c.args.self.now.full) (nat_le c.args.self.now.lane (in_lane c.args.self.now)) (nat_le t.threshold (distance_at t.rules (updates_by t w) x.sent x.counted)) full filled
