use Rattle.std.proofs.Common.{option_map, ap, ◌∙◌, map}
use Rattle.indexmap.specs.IndexMap.{spare}
use Rattle.held_cells.specs.Held.{Forms, HeldView, Parts, byte_of}
use Rattle.held_cells.proofs.Holding.{bytes_told}
use Rattle.held_cells.proofs.cells.HeldCells.small_bytes.Goals as goal

pub returns : goal.returns
returns g c =
    let f : Forms g.row.K-Held.Denot = record { small = g.K.Kind.small_of; from_small = g.K.Kind.held_of_small; fresh = g.K.Kind.fresh_held } in
    let p : Parts g.row.K-Held.Denot = record { bytes = c.self.inside.bytes.items; side = c.self.inside.side.entries; spare = spare c.self.inside.side; due = option_map (λ cell. (cell, c.self.inside.open)) c.self.inside.due; left = c.self.inside.left } in
    c.as_slice.ensures ∙ bytes_told g.K.Kind.stands f p c.self.invariant ∙ ap (λ (v : HeldView g.row.K-Held.Denot). map (λ h. byte_of (g.K.Kind.small_of h)) v.held) c.self.view_is
