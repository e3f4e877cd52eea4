use Rattle.std.proofs.Common.{rules, ◌∙◌, ◌<◌, sym, subst, w64, length}
use Rattle.std.proofs.lemmas.Int.{to_z-of_z}
use mir.Val.{SFits}
use Rattle.push_rule.specs.Counters.{CounterView}
use Rattle.push_rule.specs.Keeps.{Keeps}
use Rattle.push_rule.proofs.CounterSteps.{residue_is, residue_value, sketch_stands}
use Rattle.push_rule.proofs.counter.Counter.residue.Goals as goal

pub returns-clause-residue : goal.returns-clause-residue
returns-clause-residue g c = λ t w x same keeps.
    let fits : SFits w64 c.residue.result = search rules in
    let inner = subst (λ (d : CounterView g.row.K-Held.Denot). Keeps g.K.Kind.stands t w d x) (sym c.self.view_is) keeps in
    to_z-of_z w64 c.residue.result fits ∙ c.residue.ensures.stands _ _ _ (sketch_stands g.K.Kind.stands t w _ x inner g.K.Kind.rules same)
    ∙ residue_is g.K.Kind.stands t w _ x inner g.K.Kind.rules same c.args.cell

pub returns-clause-value : goal.returns-clause-value
returns-clause-value g c = λ t w x same keeps.
    let fits : SFits w64 c.residue.result = search rules in
    let inner = subst (λ (d : CounterView g.row.K-Held.Denot). Keeps g.K.Kind.stands t w d x) (sym c.self.view_is) keeps in
    let kind = g.met.K.Kind g.world.𝓛 g.world.𝓜 g.world.𝓡 ((λ s x. x), (λ x. x), (λ x. x), (λ x. x)) in
    let within = subst (λ (d : CounterView g.row.K-Held.Denot). c.args.cell < length d.sketch.held) (sym c.self.view_is) c.requires in
    let at = inner.sketch.cells c.args.cell in
    residue_value g.K.Kind.stands g.K.Kind.rules kind.laws kind.stands_for_values _ c.args.cell within _ _ _ at (to_z-of_z w64 c.residue.result fits ∙ c.residue.ensures.gap _ _ at)
