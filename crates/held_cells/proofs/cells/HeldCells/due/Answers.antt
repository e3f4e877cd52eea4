use Rattle.std.proofs.Common.{Option, ap, option_map, subst, ◌≡◌, ◌<◌, ℕ, length, slice_get, Some}
use Rattle.indexmap.specs.IndexMap.{spare}
use Rattle.held_cells.specs.Held.{Forms, HeldView, Parts}
use Rattle.held_cells.proofs.Holding.{due_stands, due_told}
use Rattle.held_cells.proofs.cells.HeldCells.due.Goals as goal

pub returns-clause-value : goal.returns-clause-value
returns-clause-value g c =
    let f : Forms g.row.K-Held.Denot = record { small = g.K.Kind.small_of; from_small = g.K.Kind.held_of_small; fresh = g.K.Kind.fresh_held } in
    let p : Parts g.row.K-Held.Denot = record { bytes = c.self.inside.bytes.items; side = c.self.inside.side.entries; spare = spare c.self.inside.side; due = option_map (λ cell. (cell, c.self.inside.open)) c.self.inside.due; left = c.self.inside.left } in
    subst (λ (v : HeldView g.row.K-Held.Denot). (cell : ℕ) → v.due ≡ Some cell → (cell < length v.held) × (slice_get v.held cell ≡ Some c.self.inside.open)) c.self.view_is
    (λ cell named. due_told g.K.Kind.stands f p c.self.invariant (c.in-Some.field-0, c.self.inside.open) (ap (option_map (λ cell. (cell, c.self.inside.open))) c.in-Some.is) cell
    (ap (λ (o : Option ℕ). option_map (λ (d : ℕ × g.row.K-Held.Denot). d.0) (option_map (λ cell. (cell, c.self.inside.open)) o)) named))

pub returns-clause-stands : goal.returns-clause-stands
returns-clause-stands g c =
    let f : Forms g.row.K-Held.Denot = record { small = g.K.Kind.small_of; from_small = g.K.Kind.held_of_small; fresh = g.K.Kind.fresh_held } in
    let p : Parts g.row.K-Held.Denot = record { bytes = c.self.inside.bytes.items; side = c.self.inside.side.entries; spare = spare c.self.inside.side; due = option_map (λ cell. (cell, c.self.inside.open)) c.self.inside.due; left = c.self.inside.left } in
    due_stands g.K.Kind.stands f p c.self.invariant (c.in-Some.field-0, c.self.inside.open) (ap (option_map (λ cell. (cell, c.self.inside.open))) c.in-Some.is)
