use Rattle.std.proofs.Common.{rules, sym, subst, ◌≡◌, ◌∙◌, w64, to_z, of_z}
use Rattle.push_history.specs.Told.{told_of}
use Rattle.push_history.specs.Whole.{whole_of}
use Rattle.push_rule.specs.Stands.{PrivateView, StandsFor, counted_of}
use Rattle.push_rule.proofs.Standing.{residue_is}
use Rattle.push_rule.proofs.private.Private.residue.Goals as goal

pub returns-clause-stands : goal.returns-clause-stands
returns-clause-stands g c = λ U S F closed.
    let stands = g.K.Kind.stands in
    let r = g.K.Kind.rules in
    let old : PrivateView g.row.K-Held.Denot = record { held = c.self.inside.cells.held; threshold = c.self.inside.threshold; room = c.self.inside.room; counted = counted_of c.self.inside.room c.self.inside.cells.left c.self.inside.cells.due; due = c.self.inside.cells.due; bits = c.self.inside.bits } in
    let was : StandsFor stands r old U S F = subst (λ (p : PrivateView g.row.K-Held.Denot). StandsFor stands r p U S F) (sym c.self.view_is) closed in
    let result_is : to_z w64 (of_z w64 c.unsent.result.1) ≡ c.unsent.result.1 = search rules in
    result_is ∙ (c.unsent.ensures (told_of r c.args.cell S) (whole_of r c.args.cell U) (was.cells c.args.cell c.get.result c.get.ensures.value)).1
    ∙ sym (residue_is stands r old c.args.cell U S F was)
