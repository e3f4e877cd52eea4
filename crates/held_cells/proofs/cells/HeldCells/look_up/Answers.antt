use Rattle.std.proofs.Common.{option_map, arith, sym, ap, subst, ◌≡◌, ◌<◌, ◌∙◌, length, None, Some, slice_get}
use Rattle.indexmap.specs.IndexMap.{spare}
use Rattle.held_cells.specs.Held.{Forms, HeldView, Parts, held_at, kept_at}
use Rattle.held_cells.proofs.Holding.{held_get, held_len, shown_idle}
use Rattle.held_cells.proofs.cells.HeldCells.look_up.Goals as goal

pub kept_near-requires-clause-cell : goal.kept_near-requires-clause-cell
kept_near-requires-clause-cell g c κs within =
    let f : Forms g.row.K-Held.Denot = record { small = g.K.Kind.small_of; from_small = g.K.Kind.held_of_small; fresh = g.K.Kind.fresh_held } in
    let p : Parts g.row.K-Held.Denot = record { bytes = c.self.inside.bytes.items; side = c.self.inside.side.entries; spare = spare c.self.inside.side; due = option_map (λ cell. (cell, c.self.inside.open)) c.self.inside.due; left = c.self.inside.left } in
    let lt : c.args.cell < length p.bytes = omega (arith, c.requires.cell, held_len f p, ap (λ (v : HeldView g.row.K-Held.Denot). length v.held) c.self.view_is) in
    let idle : p.due ≡ None = ap (option_map (λ cell. (cell, c.self.inside.open))) (ap (λ (v : HeldView g.row.K-Held.Denot). v.due) c.self.view_is ∙ c.requires.idle) in
    lt

pub kept_near-requires-clause-tells : goal.kept_near-requires-clause-tells
kept_near-requires-clause-tells g c κs within =
    let f : Forms g.row.K-Held.Denot = record { small = g.K.Kind.small_of; from_small = g.K.Kind.held_of_small; fresh = g.K.Kind.fresh_held } in
    let p : Parts g.row.K-Held.Denot = record { bytes = c.self.inside.bytes.items; side = c.self.inside.side.entries; spare = spare c.self.inside.side; due = option_map (λ cell. (cell, c.self.inside.open)) c.self.inside.due; left = c.self.inside.left } in
    let lt : c.args.cell < length p.bytes = omega (arith, c.requires.cell, held_len f p, ap (λ (v : HeldView g.row.K-Held.Denot). length v.held) c.self.view_is) in
    let idle : p.due ≡ None = ap (option_map (λ cell. (cell, c.self.inside.open))) (ap (λ (v : HeldView g.row.K-Held.Denot). v.due) c.self.view_is ∙ c.requires.idle) in
    (held_at f p c.args.cell, c.self.invariant.values c.args.cell lt)

pub returns-clause-value : goal.returns-clause-value
returns-clause-value g c =
    let f : Forms g.row.K-Held.Denot = record { small = g.K.Kind.small_of; from_small = g.K.Kind.held_of_small; fresh = g.K.Kind.fresh_held } in
    let p : Parts g.row.K-Held.Denot = record { bytes = c.self.inside.bytes.items; side = c.self.inside.side.entries; spare = spare c.self.inside.side; due = option_map (λ cell. (cell, c.self.inside.open)) c.self.inside.due; left = c.self.inside.left } in
    let lt : c.args.cell < length p.bytes = omega (arith, c.requires.cell, held_len f p, ap (λ (v : HeldView g.row.K-Held.Denot). length v.held) c.self.view_is) in
    let idle : p.due ≡ None = ap (option_map (λ cell. (cell, c.self.inside.open))) (ap (λ (v : HeldView g.row.K-Held.Denot). v.due) c.self.view_is ∙ c.requires.idle) in
    let kept = kept_at f p.bytes p.side c.args.cell in
    ap (λ (v : HeldView g.row.K-Held.Denot). slice_get v.held c.args.cell) (sym c.self.view_is)
    ∙ held_get f p c.args.cell lt
    ∙ ap Some (shown_idle f p idle c.args.cell ∙ sym {b = kept} c.kept_near.ensures)

pub returns-clause-stands : goal.returns-clause-stands
returns-clause-stands g c =
    let f : Forms g.row.K-Held.Denot = record { small = g.K.Kind.small_of; from_small = g.K.Kind.held_of_small; fresh = g.K.Kind.fresh_held } in
    let p : Parts g.row.K-Held.Denot = record { bytes = c.self.inside.bytes.items; side = c.self.inside.side.entries; spare = spare c.self.inside.side; due = option_map (λ cell. (cell, c.self.inside.open)) c.self.inside.due; left = c.self.inside.left } in
    let lt : c.args.cell < length p.bytes = omega (arith, c.requires.cell, held_len f p, ap (λ (v : HeldView g.row.K-Held.Denot). length v.held) c.self.view_is) in
    let idle : p.due ≡ None = ap (option_map (λ cell. (cell, c.self.inside.open))) (ap (λ (v : HeldView g.row.K-Held.Denot). v.due) c.self.view_is ∙ c.requires.idle) in
    let kept = kept_at f p.bytes p.side c.args.cell in
    let at = c.self.invariant.values c.args.cell lt in
    (at.told, at.whole, subst (λ h. g.K.Kind.stands h at.told at.whole) (shown_idle f p idle c.args.cell ∙ sym {b = kept} c.kept_near.ensures) at.stood)
