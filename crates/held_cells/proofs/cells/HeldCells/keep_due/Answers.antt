use Rattle.std.proofs.Common.{arith, ap, option_map, ◌-◌, ◌∙◌}
use Rattle.indexmap.specs.IndexMap.{spare}
use Rattle.held_cells.specs.Held.{Forms, HeldView, Parts, held_of}
use Rattle.held_cells.proofs.Holding.{due_byte, due_stands, due_told, forms_hold, room_for, set_back, settled_held, settled_parts, shown_apart}
use Rattle.held_cells.proofs.cells.HeldCells.keep_due.Goals as goal

pub keep-requires-clause-room : goal.keep-requires-clause-room
keep-requires-clause-room g c κs within =
    let f : Forms g.row.K-Held.Denot = record { small = g.K.Kind.small_of; from_small = g.K.Kind.held_of_small; fresh = g.K.Kind.fresh_held } in
    let p : Parts g.row.K-Held.Denot = record { bytes = c.self.inside.bytes.items; side = c.self.inside.side.entries; spare = spare c.self.inside.side; due = option_map (λ cell. (cell, c.self.inside.open)) c.self.inside.due; left = c.self.inside.left } in
    let kind = (g.met.K.Kind g.world.𝓛 g.world.𝓜 g.world.𝓡 ((λ s x. x), (λ x. x), (λ x. x), (λ x. x))) in
    let opened = c.self.invariant.pending c.in-Some.cell c.self.inside.open (ap (option_map (λ cell. (cell, c.self.inside.open))) c.in-Some.is) in
    let stood = due_stands g.K.Kind.stands f p c.self.invariant (c.in-Some.cell, c.self.inside.open) (ap (option_map (λ cell. (cell, c.self.inside.open))) c.in-Some.is) in
    let forms = forms_hold g.K.Kind.stands g.K.Kind.rules kind.laws kind.stands_for_values f kind.small_is kind.small_back in
    room_for g.K.Kind.stands f forms p c.in-Some.cell c.self.invariant opened.0 opened.1 (shown_apart f p c.in-Some.cell c.self.inside.open (ap (option_map (λ cell. (cell, c.self.inside.open))) c.in-Some.is)) c.self.inside.open stood.0 stood.1 stood.2

pub keep-requires-clause-stands : goal.keep-requires-clause-stands
keep-requires-clause-stands g c κs within =
    let f : Forms g.row.K-Held.Denot = record { small = g.K.Kind.small_of; from_small = g.K.Kind.held_of_small; fresh = g.K.Kind.fresh_held } in
    let p : Parts g.row.K-Held.Denot = record { bytes = c.self.inside.bytes.items; side = c.self.inside.side.entries; spare = spare c.self.inside.side; due = option_map (λ cell. (cell, c.self.inside.open)) c.self.inside.due; left = c.self.inside.left } in
    let stood = due_stands g.K.Kind.stands f p c.self.invariant (c.in-Some.cell, c.self.inside.open) (ap (option_map (λ cell. (cell, c.self.inside.open))) c.in-Some.is) in
    (stood.0, stood.1, stood.2)

pub invariant_of-self : goal.invariant_of-self
invariant_of-self g c =
    let f : Forms g.row.K-Held.Denot = record { small = g.K.Kind.small_of; from_small = g.K.Kind.held_of_small; fresh = g.K.Kind.fresh_held } in
    let p : Parts g.row.K-Held.Denot = record { bytes = c.self.inside.bytes.items; side = c.self.inside.side.entries; spare = spare c.self.inside.side; due = option_map (λ cell. (cell, c.self.inside.open)) c.self.inside.due; left = c.self.inside.left } in
    let kind = (g.met.K.Kind g.world.𝓛 g.world.𝓜 g.world.𝓡 ((λ s x. x), (λ x. x), (λ x. x), (λ x. x))) in
    let opened = c.self.invariant.pending c.in-Some.cell c.self.inside.open (ap (option_map (λ cell. (cell, c.self.inside.open))) c.in-Some.is) in
    let stood = due_stands g.K.Kind.stands f p c.self.invariant (c.in-Some.cell, c.self.inside.open) (ap (option_map (λ cell. (cell, c.self.inside.open))) c.in-Some.is) in
    let forms = forms_hold g.K.Kind.stands g.K.Kind.rules kind.laws kind.stands_for_values f kind.small_is kind.small_back in
    settled_parts g.K.Kind.stands f forms p c.in-Some.cell c.self.invariant opened.0 opened.1 (shown_apart f p c.in-Some.cell c.self.inside.open (ap (option_map (λ cell. (cell, c.self.inside.open))) c.in-Some.is)) c.self.inside.open stood.0 stood.1 stood.2
    p.bytes c.keep.new.side.entries (spare c.keep.new.side) _ (due_byte g.K.Kind.stands f p c.self.invariant c.in-Some.cell c.self.inside.open (ap (option_map (λ cell. (cell, c.self.inside.open))) c.in-Some.is)) c.keep.ensures (omega (arith, opened.1))

pub returns-clause-held : goal.returns-clause-held
returns-clause-held g c =
    let f : Forms g.row.K-Held.Denot = record { small = g.K.Kind.small_of; from_small = g.K.Kind.held_of_small; fresh = g.K.Kind.fresh_held } in
    let p : Parts g.row.K-Held.Denot = record { bytes = c.self.inside.bytes.items; side = c.self.inside.side.entries; spare = spare c.self.inside.side; due = option_map (λ cell. (cell, c.self.inside.open)) c.self.inside.due; left = c.self.inside.left } in
    let kind = (g.met.K.Kind g.world.𝓛 g.world.𝓜 g.world.𝓡 ((λ s x. x), (λ x. x), (λ x. x), (λ x. x))) in
    let opened = c.self.invariant.pending c.in-Some.cell c.self.inside.open (ap (option_map (λ cell. (cell, c.self.inside.open))) c.in-Some.is) in
    let stood = due_stands g.K.Kind.stands f p c.self.invariant (c.in-Some.cell, c.self.inside.open) (ap (option_map (λ cell. (cell, c.self.inside.open))) c.in-Some.is) in
    let forms = forms_hold g.K.Kind.stands g.K.Kind.rules kind.laws kind.stands_for_values f kind.small_is kind.small_back in
    settled_held g.K.Kind.stands f forms p c.in-Some.cell c.self.invariant opened.0 opened.1 (shown_apart f p c.in-Some.cell c.self.inside.open (ap (option_map (λ cell. (cell, c.self.inside.open))) c.in-Some.is)) c.self.inside.open stood.0 stood.1 stood.2
    p.bytes c.keep.new.side.entries (spare c.keep.new.side) (c.self.inside.left - 1) (due_byte g.K.Kind.stands f p c.self.invariant c.in-Some.cell c.self.inside.open (ap (option_map (λ cell. (cell, c.self.inside.open))) c.in-Some.is)) c.keep.ensures
    ∙ set_back (held_of f p) c.in-Some.cell c.self.inside.open (due_told g.K.Kind.stands f p c.self.invariant (c.in-Some.cell, c.self.inside.open) (ap (option_map (λ cell. (cell, c.self.inside.open))) c.in-Some.is) c.in-Some.cell (ap (option_map (λ o. o.0)) (ap (option_map (λ cell. (cell, c.self.inside.open))) c.in-Some.is))).1
    ∙ ap (λ (v : HeldView g.row.K-Held.Denot). v.held) c.self.view_is
