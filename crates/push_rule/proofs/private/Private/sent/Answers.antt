use Rattle.std.proofs.Common.{refl, ap, sym, subst, ◌≡◌, ◌-◌, ◌∙◌, ℤ, Some, IsSome, length}
use Rattle.std.proofs.lemmas.List.{length-set}
use Rattle.hash_rows.specs.declared.shape.Push.{Push}
use Rattle.push_history.specs.Told.{told_of}
use Rattle.push_history.specs.Whole.{whole_of}
use Rattle.push_rule.specs.Stands.{PrivateView, StandsFor, StandsAt, counted_of}
use Rattle.push_rule.proofs.Standing.{counted_settled, due_cell, sent_at, stands_sent}
use Rattle.push_rule.proofs.private.Private.sent.Goals as goal

pub returns-clause-stands : goal.returns-clause-stands
returns-clause-stands g c = λ worker packet key U S F closed.
    let stands = g.K.Kind.stands in
    let r = g.K.Kind.rules in
    let old : PrivateView g.row.K-Held.Denot = record { held = c.self.inside.cells.held; threshold = c.self.inside.threshold; room = c.self.inside.room; counted = counted_of c.self.inside.room c.self.inside.cells.left c.self.inside.cells.due; due = c.self.inside.cells.due; bits = c.self.inside.bits } in
    let was : StandsFor stands r old U S F = subst (λ (p : PrivateView g.row.K-Held.Denot). StandsFor stands r p U S F) (sym c.self.view_is) closed in
    let kind = (g.met.K.Kind g.world.𝓛 g.world.𝓜 g.world.𝓡 ((λ s x. x), (λ x. x), (λ x. x), (λ x. x))) in
    let some = subst (λ (p : PrivateView g.row.K-Held.Denot). IsSome p.due) (sym c.self.view_is) c.requires in
    let cell = due_cell c.self.inside.cells.due some in
    let at = c.due.ensures.value cell.0 cell.1 in
    let count : counted_of c.self.inside.room c.self.inside.cells.left c.self.inside.cells.due ≡ c.args.self.now.counted = ap (λ (p : PrivateView g.row.K-Held.Denot). p.counted) c.self.view_is in
    let due : c.args.self.now.due ≡ Some cell.0 = ap (λ (p : PrivateView g.row.K-Held.Denot). p.due) (sym c.self.view_is) ∙ cell.1 in
    let m : Push = record {
      worker = worker;
      packet = packet;
      update = c.args.self.now.counted - 1;
      key = key;
      cell = cell.0;
      amount = r.gap (told_of r cell.0 S) (whole_of r cell.0 U);
    } in
    let tells : (told whole : ℤ) → StandsAt stands old.held cell.0 told whole → stands c.told_all-told.result whole whole =
    λ told whole stood. c.told_all-told.ensures told whole (stood c.due.result at.1) in
    sent_at stands r _ worker packet (c.args.self.now.counted - 1) key U S F c.args.self.now.due cell.0 due
    (stands_sent stands r kind.laws kind.stands_for_values old _ cell.0 c.told_all-told.result m U S F was cell.1 (ap (λ n. n - 1) (sym count)) refl refl tells
    (c.settle.ensures.held cell.0 cell.1) refl
    (counted_settled c.self.inside.room c.self.inside.cells.left _ c.self.inside.cells.due _ cell.0 cell.1 c.settle.ensures.idle c.settle.ensures.left c.self.invariant.1)
    c.settle.ensures.idle refl)

pub returns-clause-cells : goal.returns-clause-cells
returns-clause-cells g c =
    let cell = due_cell c.self.inside.cells.due (subst (λ (p : PrivateView g.row.K-Held.Denot). IsSome p.due) (sym c.self.view_is) c.requires) in
    ap length (c.settle.ensures.held cell.0 cell.1) ∙ length-set c.self.inside.cells.held cell.0 c.told_all-told.result
    ∙ ap (λ (p : PrivateView g.row.K-Held.Denot). length p.held) c.self.view_is
