use Rattle.std.proofs.Common.{arith, refl, true, slice_set, ◌∙◌, ap, sym, subst, ◌≡◌, ◌<◌, ◌-◌, ℕ, length, Option, IsSome, MatchOption}
use Rattle.std.specs.Prelude.{⊤}
use Rattle.push_rule.specs.Stands.{PrivateView, StandsFor, counted_of}
use Rattle.push_rule.proofs.Standing.{counted_settled, due_cell, stands_refused}
use Rattle.push_rule.proofs.private.Private.refused.Goals as goal

pub returns-clause-stands : goal.returns-clause-stands
returns-clause-stands g c = λ U S F closed.
    let stands = g.K.Kind.stands in
    let r = g.K.Kind.rules in
    let old : PrivateView g.row.K-Held.Denot = record { held = c.self.inside.cells.held; threshold = c.self.inside.threshold; room = c.self.inside.room; counted = counted_of c.self.inside.room c.self.inside.cells.left c.self.inside.cells.due; due = c.self.inside.cells.due; bits = c.self.inside.bits } in
    let was : StandsFor stands r old U S F = subst (λ (p : PrivateView g.row.K-Held.Denot). StandsFor stands r p U S F) (sym c.self.view_is) closed in
    let cell = due_cell c.self.inside.cells.due (subst (λ (p : PrivateView g.row.K-Held.Denot). IsSome p.due) (sym c.self.view_is) c.requires) in
    let some = subst (λ (o : Option ℕ). MatchOption o ⊤ (λ cell. (cell < length c.self.inside.cells.held) × (0 < c.self.inside.cells.left))) cell.1 c.self.invariant.2 in
    let number : c.self.inside.room - c.left.result ≡ old.counted - 1 = rw cell.1 (omega (arith, c.left.ensures)) in
    let within : old.counted - 1 < length old.bits = omega (arith, sym number, c.left.ensures, c.self.invariant.0, c.self.invariant.1, some.1) in
    let counted = counted_settled c.self.inside.room c.self.inside.cells.left _ c.self.inside.cells.due _ cell.0 cell.1 c.keep_due.ensures.idle c.keep_due.ensures.left c.self.invariant.1 in
    let count : old.counted ≡ c.args.self.now.counted = ap (λ (p : PrivateView g.row.K-Held.Denot). p.counted) c.self.view_is in
    rw (sym count) (stands_refused stands r old _ cell.0 (old.counted - 1) U S F was cell.1 refl within
    c.keep_due.ensures.held refl counted c.keep_due.ensures.idle (c.set.ensures ∙ ap (λ (n : ℕ). slice_set old.bits n true) number))
