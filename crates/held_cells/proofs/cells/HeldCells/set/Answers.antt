use Rattle.std.proofs.Common.{option_map, arith, ap, sym, subst, ◌≡◌, ◌<◌, ◌-◌, ◌∙◌, ℕ, length, Option, None, slice_set}
use Rattle.indexmap.specs.IndexMap.{spare}
use Rattle.held_cells.specs.Held.{AreHeldParts, Forms, HeldView, Parts, held_of}
use Rattle.held_cells.proofs.Holding.{forms_hold, held_len, room_for, settled_held, settled_parts, shown_idle}
use Rattle.held_cells.proofs.cells.HeldCells.set.Goals as goal

pub hold-requires-clause-room : goal.hold-requires-clause-room
hold-requires-clause-room g c κs within =
    let f : Forms g.row.K-Held.Denot = record { small = g.K.Kind.small_of; from_small = g.K.Kind.held_of_small; fresh = g.K.Kind.fresh_held } in
    let p : Parts g.row.K-Held.Denot = record { bytes = c.self.inside.bytes.items; side = c.self.inside.side.entries; spare = spare c.self.inside.side; due = option_map (λ cell. (cell, c.self.inside.open)) c.self.inside.due; left = c.self.inside.left } in
    let lt : c.args.cell < length p.bytes = omega (arith, c.requires.cell, held_len f p, ap (λ (v : HeldView g.row.K-Held.Denot). length v.held) c.self.view_is) in
    let idle : p.due ≡ None = ap (option_map (λ cell. (cell, c.self.inside.open))) (ap (λ (v : HeldView g.row.K-Held.Denot). v.due) c.self.view_is ∙ c.requires.idle) in
    let some : 0 < p.left = omega (arith, c.requires.left, ap (λ (v : HeldView g.row.K-Held.Denot). v.left) c.self.view_is) in
    let kind = (g.met.K.Kind g.world.𝓛 g.world.𝓜 g.world.𝓡 ((λ s x. x), (λ x. x), (λ x. x), (λ x. x))) in
    let forms = forms_hold g.K.Kind.stands g.K.Kind.rules kind.laws kind.stands_for_values f kind.small_is kind.small_back in
    room_for g.K.Kind.stands f forms p c.args.cell c.self.invariant lt some (λ k other. shown_idle f p idle k) c.args.held c.requires.stands.0 c.requires.stands.1 c.requires.stands.2

pub hold-requires-clause-cell : goal.hold-requires-clause-cell
hold-requires-clause-cell g c κs within =
    let f : Forms g.row.K-Held.Denot = record { small = g.K.Kind.small_of; from_small = g.K.Kind.held_of_small; fresh = g.K.Kind.fresh_held } in
    let p : Parts g.row.K-Held.Denot = record { bytes = c.self.inside.bytes.items; side = c.self.inside.side.entries; spare = spare c.self.inside.side; due = option_map (λ cell. (cell, c.self.inside.open)) c.self.inside.due; left = c.self.inside.left } in
    let lt : c.args.cell < length p.bytes = omega (arith, c.requires.cell, held_len f p, ap (λ (v : HeldView g.row.K-Held.Denot). length v.held) c.self.view_is) in
    let idle : p.due ≡ None = ap (option_map (λ cell. (cell, c.self.inside.open))) (ap (λ (v : HeldView g.row.K-Held.Denot). v.due) c.self.view_is ∙ c.requires.idle) in
    lt

pub invariant_of-self : goal.invariant_of-self
invariant_of-self g c =
    let f : Forms g.row.K-Held.Denot = record { small = g.K.Kind.small_of; from_small = g.K.Kind.held_of_small; fresh = g.K.Kind.fresh_held } in
    let p : Parts g.row.K-Held.Denot = record { bytes = c.self.inside.bytes.items; side = c.self.inside.side.entries; spare = spare c.self.inside.side; due = option_map (λ cell. (cell, c.self.inside.open)) c.self.inside.due; left = c.self.inside.left } in
    let lt : c.args.cell < length p.bytes = omega (arith, c.requires.cell, held_len f p, ap (λ (v : HeldView g.row.K-Held.Denot). length v.held) c.self.view_is) in
    let idle : p.due ≡ None = ap (option_map (λ cell. (cell, c.self.inside.open))) (ap (λ (v : HeldView g.row.K-Held.Denot). v.due) c.self.view_is ∙ c.requires.idle) in
    let some : 0 < p.left = omega (arith, c.requires.left, ap (λ (v : HeldView g.row.K-Held.Denot). v.left) c.self.view_is) in
    let kind = (g.met.K.Kind g.world.𝓛 g.world.𝓜 g.world.𝓡 ((λ s x. x), (λ x. x), (λ x. x), (λ x. x))) in
    let forms = forms_hold g.K.Kind.stands g.K.Kind.rules kind.laws kind.stands_for_values f kind.small_is kind.small_back in
    subst (λ (d : Option (ℕ × g.row.K-Held.Denot)). AreHeldParts g.K.Kind.stands f (record { bytes = c.hold.new.bytes.items; side = c.hold.new.side.entries; spare = spare c.hold.new.side; due = d; left = c.self.inside.left - 1 })) (sym idle)
    (settled_parts g.K.Kind.stands f forms p c.args.cell c.self.invariant lt some (λ k other. shown_idle f p idle k) c.args.held c.requires.stands.0 c.requires.stands.1 c.requires.stands.2
    c.hold.new.bytes.items c.hold.new.side.entries (spare c.hold.new.side) (c.self.inside.left - 1) c.hold.ensures.bytes c.hold.ensures.side (omega (arith, some)))

pub returns-clause-held : goal.returns-clause-held
returns-clause-held g c =
    let f : Forms g.row.K-Held.Denot = record { small = g.K.Kind.small_of; from_small = g.K.Kind.held_of_small; fresh = g.K.Kind.fresh_held } in
    let p : Parts g.row.K-Held.Denot = record { bytes = c.self.inside.bytes.items; side = c.self.inside.side.entries; spare = spare c.self.inside.side; due = option_map (λ cell. (cell, c.self.inside.open)) c.self.inside.due; left = c.self.inside.left } in
    let lt : c.args.cell < length p.bytes = omega (arith, c.requires.cell, held_len f p, ap (λ (v : HeldView g.row.K-Held.Denot). length v.held) c.self.view_is) in
    let idle : p.due ≡ None = ap (option_map (λ cell. (cell, c.self.inside.open))) (ap (λ (v : HeldView g.row.K-Held.Denot). v.due) c.self.view_is ∙ c.requires.idle) in
    let some : 0 < p.left = omega (arith, c.requires.left, ap (λ (v : HeldView g.row.K-Held.Denot). v.left) c.self.view_is) in
    let kind = (g.met.K.Kind g.world.𝓛 g.world.𝓜 g.world.𝓡 ((λ s x. x), (λ x. x), (λ x. x), (λ x. x))) in
    let forms = forms_hold g.K.Kind.stands g.K.Kind.rules kind.laws kind.stands_for_values f kind.small_is kind.small_back in
    ap (λ (d : Option (ℕ × g.row.K-Held.Denot)). held_of f (record { bytes = c.hold.new.bytes.items; side = c.hold.new.side.entries; spare = spare c.hold.new.side; due = d; left = c.self.inside.left - 1 })) idle
    ∙ settled_held g.K.Kind.stands f forms p c.args.cell c.self.invariant lt some (λ k other. shown_idle f p idle k) c.args.held c.requires.stands.0 c.requires.stands.1 c.requires.stands.2
    c.hold.new.bytes.items c.hold.new.side.entries (spare c.hold.new.side) (c.self.inside.left - 1) c.hold.ensures.bytes c.hold.ensures.side
    ∙ ap (λ (v : HeldView g.row.K-Held.Denot). slice_set v.held c.args.cell c.args.held) c.self.view_is
