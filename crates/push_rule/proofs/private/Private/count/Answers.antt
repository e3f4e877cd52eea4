use Rattle.std.proofs.Common.{arith, refl, ap, sym, subst, ◌≡◌, ◌++◌, ◌∙◌, [], ◌∷◌, ℕ, ℤ, true, Option, None, MatchOption, slice_set, w64, to_z, of_z}
use Rattle.std.proofs.lemmas.Int.{to_z-of_z}
use Rattle.hash_rows.specs.declared.shape.Update.{Update}
use Rattle.held_cells.specs.Held.{HeldView}
use Rattle.push_history.specs.Pushes.{ArePushes}
use Rattle.push_history.specs.Told.{told_of}
use Rattle.push_history.specs.Whole.{whole_of}
use Rattle.push_rule.specs.Stands.{PrivateView, StandsFor, StandsAt, Waits, counted_of}
use Rattle.push_history.proofs.Growing.{pushes_counted}
use Rattle.push_rule.proofs.Standing.{counted_due, counted_set, stands_counted, whole_own}
use Rattle.push_rule.proofs.private.Private.count.Goals as goal

pub returns-then-distance-self-clause-stands : goal.returns-then-distance-self-clause-stands
returns-then-distance-self-clause-stands g c = λ packet key U S F closed.
    let stands = g.K.Kind.stands in
    let r = g.K.Kind.rules in
    let old : PrivateView g.row.K-Held.Denot = record { held = c.self.inside.cells.held; threshold = c.self.inside.threshold; room = c.self.inside.room; counted = counted_of c.self.inside.room c.self.inside.cells.left c.self.inside.cells.due; due = c.self.inside.cells.due; bits = c.self.inside.bits } in
    let was : StandsFor stands r old U S F = subst (λ (p : PrivateView g.row.K-Held.Denot). StandsFor stands r p U S F) (sym c.self.view_is) closed in
    let u : Update = record { packet = packet; key = key; cell = c.args.cell; value = c.args.value } in
    let value_is : to_z w64 (of_z w64 c.args.value) ≡ c.args.value = to_z-of_z w64 c.args.value c.ranges.value in
    let counts : (told whole : ℤ) → StandsAt stands old.held c.args.cell told whole → stands c.counted-held.result told (r.join whole c.args.value) =
    λ told whole at. subst (λ (v : ℤ). stands c.counted-held.result told (r.join whole v)) value_is
    (c.counted-held.ensures told whole (subst (λ (v : ℤ). r.is_value v ≡ true) (sym value_is) c.requires.value) (at c.look_up.result c.look_up.ensures.value)) in
    let idle : c.self.inside.cells.due ≡ None = ap (λ (p : PrivateView g.row.K-Held.Denot). p.due) c.self.view_is ∙ c.requires.idle in
    let pushes : ArePushes r old.threshold U S F = subst (λ (o : Option ℕ). MatchOption o (ArePushes r old.threshold U S F) (Waits r old.threshold U S F)) idle was.pushes in
    let distance_is : r.distance (told_of r u.cell S) (whole_of r u.cell (U ++ u ∷ [])) ≡ c.unsent-distance.result.0 =
    ap (r.distance (told_of r u.cell S)) (whole_own r U u)
    ∙ sym (c.unsent-distance.ensures (told_of r u.cell S) (r.join (whole_of r u.cell U) u.value) (counts (told_of r u.cell S) (whole_of r u.cell U) (was.cells u.cell))).0 in
    stands_counted stands r old _ u c.counted-held.result U S F was counts
    (c.put_due.ensures.held ∙ ap (λ (v : HeldView g.row.K-Held.Denot). slice_set v.held c.args.cell c.counted-held.result) c.look_up.ensures.same)
    (counted_due c.self.inside.room c.self.inside.cells.left _ c.self.inside.cells.due _ c.args.cell idle c.put_due.ensures.due
    (c.put_due.ensures.left ∙ ap (λ (v : HeldView g.row.K-Held.Denot). v.left) c.look_up.ensures.same)) refl
    (rw c.put_due.ensures.due (record { before = U; last = u; parts = refl; its_cell = refl; pushes = pushes; far = omega (arith, c.if-distance-self.true, distance_is) }))

pub returns-else-distance-self-clause-stands : goal.returns-else-distance-self-clause-stands
returns-else-distance-self-clause-stands g c = λ packet key U S F closed.
    let stands = g.K.Kind.stands in
    let r = g.K.Kind.rules in
    let old : PrivateView g.row.K-Held.Denot = record { held = c.self.inside.cells.held; threshold = c.self.inside.threshold; room = c.self.inside.room; counted = counted_of c.self.inside.room c.self.inside.cells.left c.self.inside.cells.due; due = c.self.inside.cells.due; bits = c.self.inside.bits } in
    let was : StandsFor stands r old U S F = subst (λ (p : PrivateView g.row.K-Held.Denot). StandsFor stands r p U S F) (sym c.self.view_is) closed in
    let u : Update = record { packet = packet; key = key; cell = c.args.cell; value = c.args.value } in
    let value_is : to_z w64 (of_z w64 c.args.value) ≡ c.args.value = to_z-of_z w64 c.args.value c.ranges.value in
    let counts : (told whole : ℤ) → StandsAt stands old.held c.args.cell told whole → stands c.counted-held.result told (r.join whole c.args.value) =
    λ told whole at. subst (λ (v : ℤ). stands c.counted-held.result told (r.join whole v)) value_is
    (c.counted-held.ensures told whole (subst (λ (v : ℤ). r.is_value v ≡ true) (sym value_is) c.requires.value) (at c.look_up.result c.look_up.ensures.value)) in
    let idle : c.self.inside.cells.due ≡ None = ap (λ (p : PrivateView g.row.K-Held.Denot). p.due) c.self.view_is ∙ c.requires.idle in
    let pushes : ArePushes r old.threshold U S F = subst (λ (o : Option ℕ). MatchOption o (ArePushes r old.threshold U S F) (Waits r old.threshold U S F)) idle was.pushes in
    let distance_is : r.distance (told_of r u.cell S) (whole_of r u.cell (U ++ u ∷ [])) ≡ c.unsent-distance.result.0 =
    ap (r.distance (told_of r u.cell S)) (whole_own r U u)
    ∙ sym (c.unsent-distance.ensures (told_of r u.cell S) (r.join (whole_of r u.cell U) u.value) (counts (told_of r u.cell S) (whole_of r u.cell U) (was.cells u.cell))).0 in
    stands_counted stands r old _ u c.counted-held.result U S F was counts
    (c.set.ensures.held ∙ ap (λ (v : HeldView g.row.K-Held.Denot). slice_set v.held c.args.cell c.counted-held.result) c.look_up.ensures.same)
    (counted_set c.self.inside.room c.self.inside.cells.left _ c.self.inside.cells.due _ idle c.set.ensures.idle
    (c.set.ensures.left ∙ ap (λ (v : HeldView g.row.K-Held.Denot). v.left) c.look_up.ensures.same) c.self.invariant.1) refl
    (rw c.set.ensures.idle (pushes_counted r old.threshold U u S F pushes (omega (arith, c.if-distance-self.false, distance_is))))
