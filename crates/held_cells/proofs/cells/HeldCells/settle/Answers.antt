use Rattle.std.proofs.Common.{Option, ap, option_map, arith, subst, ◌≡◌, ◌-◌, ℕ, None, Some, slice_set}
use Rattle.indexmap.specs.IndexMap.{spare}
use Rattle.held_cells.specs.Held.{Forms, HeldView, Parts, held_of}
use Rattle.held_cells.proofs.Holding.{due_is, forms_hold, room_for, settled_held, settled_parts, shown_apart}
use Rattle.held_cells.proofs.cells.HeldCells.settle.Goals as goal

pub hold-requires-clause-room : goal.hold-requires-clause-room
hold-requires-clause-room g c κs within =
    let f : Forms g.row.K-Held.Denot = record { small = g.K.Kind.small_of; from_small = g.K.Kind.held_of_small; fresh = g.K.Kind.fresh_held } in
    let p : Parts g.row.K-Held.Denot = record { bytes = c.self.inside.bytes.items; side = c.self.inside.side.entries; spare = spare c.self.inside.side; due = option_map (λ cell. (cell, c.self.inside.open)) c.self.inside.due; left = c.self.inside.left } in
    let kind = (g.met.K.Kind g.world.𝓛 g.world.𝓜 g.world.𝓡 ((λ s x. x), (λ x. x), (λ x. x), (λ x. x))) in
    let opened = c.self.invariant.pending c.in-Some.cell c.self.inside.open (ap (option_map (λ cell. (cell, c.self.inside.open))) c.in-Some.is) in
    let forms = forms_hold g.K.Kind.stands g.K.Kind.rules kind.laws kind.stands_for_values f kind.small_is kind.small_back in
    room_for g.K.Kind.stands f forms p c.in-Some.cell c.self.invariant opened.0 opened.1 (shown_apart f p c.in-Some.cell c.self.inside.open (ap (option_map (λ cell. (cell, c.self.inside.open))) c.in-Some.is)) c.args.held c.requires.stands.0 c.requires.stands.1 c.requires.stands.2

pub invariant_of-self : goal.invariant_of-self
invariant_of-self g c =
    let f : Forms g.row.K-Held.Denot = record { small = g.K.Kind.small_of; from_small = g.K.Kind.held_of_small; fresh = g.K.Kind.fresh_held } in
    let p : Parts g.row.K-Held.Denot = record { bytes = c.self.inside.bytes.items; side = c.self.inside.side.entries; spare = spare c.self.inside.side; due = option_map (λ cell. (cell, c.self.inside.open)) c.self.inside.due; left = c.self.inside.left } in
    let kind = (g.met.K.Kind g.world.𝓛 g.world.𝓜 g.world.𝓡 ((λ s x. x), (λ x. x), (λ x. x), (λ x. x))) in
    let opened = c.self.invariant.pending c.in-Some.cell c.self.inside.open (ap (option_map (λ cell. (cell, c.self.inside.open))) c.in-Some.is) in
    let forms = forms_hold g.K.Kind.stands g.K.Kind.rules kind.laws kind.stands_for_values f kind.small_is kind.small_back in
    settled_parts g.K.Kind.stands f forms p c.in-Some.cell c.self.invariant opened.0 opened.1 (shown_apart f p c.in-Some.cell c.self.inside.open (ap (option_map (λ cell. (cell, c.self.inside.open))) c.in-Some.is)) c.args.held c.requires.stands.0 c.requires.stands.1 c.requires.stands.2
    c.hold.new.bytes.items c.hold.new.side.entries (spare c.hold.new.side) _ c.hold.ensures.bytes c.hold.ensures.side (omega (arith, opened.1))

pub returns-clause-held : goal.returns-clause-held
returns-clause-held g c =
    let f : Forms g.row.K-Held.Denot = record { small = g.K.Kind.small_of; from_small = g.K.Kind.held_of_small; fresh = g.K.Kind.fresh_held } in
    let p : Parts g.row.K-Held.Denot = record { bytes = c.self.inside.bytes.items; side = c.self.inside.side.entries; spare = spare c.self.inside.side; due = option_map (λ cell. (cell, c.self.inside.open)) c.self.inside.due; left = c.self.inside.left } in
    let kind = (g.met.K.Kind g.world.𝓛 g.world.𝓜 g.world.𝓡 ((λ s x. x), (λ x. x), (λ x. x), (λ x. x))) in
    let opened = c.self.invariant.pending c.in-Some.cell c.self.inside.open (ap (option_map (λ cell. (cell, c.self.inside.open))) c.in-Some.is) in
    let forms = forms_hold g.K.Kind.stands g.K.Kind.rules kind.laws kind.stands_for_values f kind.small_is kind.small_back in
    let new : Parts g.row.K-Held.Denot = record { bytes = c.hold.new.bytes.items; side = c.hold.new.side.entries; spare = spare c.hold.new.side; due = None; left = c.self.inside.left - 1 } in
    let is : held_of f new ≡ slice_set (held_of f p) c.in-Some.cell c.args.held =
    settled_held g.K.Kind.stands f forms p c.in-Some.cell c.self.invariant opened.0 opened.1 (shown_apart f p c.in-Some.cell c.self.inside.open (ap (option_map (λ cell. (cell, c.self.inside.open))) c.in-Some.is)) c.args.held c.requires.stands.0 c.requires.stands.1 c.requires.stands.2
    c.hold.new.bytes.items c.hold.new.side.entries (spare c.hold.new.side) (c.self.inside.left - 1) c.hold.ensures.bytes c.hold.ensures.side in
    subst (λ (v : HeldView g.row.K-Held.Denot). (cell : ℕ) → v.due ≡ Some cell → held_of f new ≡ slice_set v.held cell c.args.held) c.self.view_is
    (λ cell named. subst (λ (k : ℕ). held_of f new ≡ slice_set (held_of f p) k c.args.held) (due_is p.due c.in-Some.cell c.self.inside.open cell (ap (option_map (λ cell. (cell, c.self.inside.open))) c.in-Some.is)
    (ap (λ (o : Option ℕ). option_map (λ (d : ℕ × g.row.K-Held.Denot). d.0) (option_map (λ cell. (cell, c.self.inside.open)) o)) named)) is)
