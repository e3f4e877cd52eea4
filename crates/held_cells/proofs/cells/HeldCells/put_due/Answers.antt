use Rattle.std.proofs.Common.{option_map, rules, arith, w8, to_z, of_z, ap, ◌≡◌, ◌<◌, ◌∙◌, length, None, slice_set}
use Rattle.indexmap.specs.IndexMap.{spare}
use Rattle.held_cells.specs.Held.{Forms, HeldView, Parts}
use Rattle.held_cells.proofs.Holding.{held_len, opened_held, opened_parts}
use Rattle.held_cells.proofs.cells.HeldCells.put_due.Goals as goal

pub set-requires : goal.set-requires
set-requires g c =
    let f : Forms g.row.K-Held.Denot = record { small = g.K.Kind.small_of; from_small = g.K.Kind.held_of_small; fresh = g.K.Kind.fresh_held } in
    let p : Parts g.row.K-Held.Denot = record { bytes = c.self.inside.bytes.items; side = c.self.inside.side.entries; spare = spare c.self.inside.side; due = option_map (λ cell. (cell, c.self.inside.open)) c.self.inside.due; left = c.self.inside.left } in
    omega (arith, c.requires.cell, held_len f p, ap (λ (v : HeldView g.row.K-Held.Denot). length v.held) c.self.view_is)

pub invariant_of-self : goal.invariant_of-self
invariant_of-self g c =
    let f : Forms g.row.K-Held.Denot = record { small = g.K.Kind.small_of; from_small = g.K.Kind.held_of_small; fresh = g.K.Kind.fresh_held } in
    let p : Parts g.row.K-Held.Denot = record { bytes = c.self.inside.bytes.items; side = c.self.inside.side.entries; spare = spare c.self.inside.side; due = option_map (λ cell. (cell, c.self.inside.open)) c.self.inside.due; left = c.self.inside.left } in
    let lt : c.args.cell < length p.bytes = omega (arith, c.requires.cell, held_len f p, ap (λ (v : HeldView g.row.K-Held.Denot). length v.held) c.self.view_is) in
    let idle : p.due ≡ None = ap (option_map (λ cell. (cell, c.self.inside.open))) (ap (λ (v : HeldView g.row.K-Held.Denot). v.due) c.self.view_is ∙ c.requires.idle) in
    let some : 0 < p.left = omega (arith, c.requires.left, ap (λ (v : HeldView g.row.K-Held.Denot). v.left) c.self.view_is) in
    let byte_is : to_z w8 (of_z w8 c.byte_for.result) ≡ c.byte_for.result = search rules in
    opened_parts g.K.Kind.stands f p idle c.args.cell c.args.held c.self.invariant c.requires.stands.0 c.requires.stands.1 c.requires.stands.2 c.set.new.self.items
    (c.set.ensures.items ∙ ap (slice_set p.bytes c.args.cell) (byte_is ∙ c.byte_for.ensures)) lt some

pub returns-clause-held : goal.returns-clause-held
returns-clause-held g c =
    let f : Forms g.row.K-Held.Denot = record { small = g.K.Kind.small_of; from_small = g.K.Kind.held_of_small; fresh = g.K.Kind.fresh_held } in
    let p : Parts g.row.K-Held.Denot = record { bytes = c.self.inside.bytes.items; side = c.self.inside.side.entries; spare = spare c.self.inside.side; due = option_map (λ cell. (cell, c.self.inside.open)) c.self.inside.due; left = c.self.inside.left } in
    let lt : c.args.cell < length p.bytes = omega (arith, c.requires.cell, held_len f p, ap (λ (v : HeldView g.row.K-Held.Denot). length v.held) c.self.view_is) in
    let idle : p.due ≡ None = ap (option_map (λ cell. (cell, c.self.inside.open))) (ap (λ (v : HeldView g.row.K-Held.Denot). v.due) c.self.view_is ∙ c.requires.idle) in
    opened_held g.K.Kind.stands f p idle c.args.cell c.args.held c.set.new.self.items _ c.set.ensures.items lt
    ∙ ap (λ (v : HeldView g.row.K-Held.Denot). slice_set v.held c.args.cell c.args.held) c.self.view_is
