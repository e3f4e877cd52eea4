use Rattle.std.proofs.Common.{◌≡◌, ◌∙◌, Some, pos}
use Rattle.indexmap.specs.IndexMap.{spare}
use Rattle.held_cells.specs.Held.{Forms}
use Rattle.held_cells.proofs.Holding.{fresh_held}
use Rattle.held_cells.proofs.cells.HeldCells.new.Goals as goal

pub returns-in-Ok-clause-held : goal.returns-in-Ok-clause-held
returns-in-Ok-clause-held g c =
    let f : Forms g.row.K-Held.Denot = record { small = g.K.Kind.small_of; from_small = g.K.Kind.held_of_small; fresh = g.K.Kind.fresh_held } in
    let kind = (g.met.K.Kind g.world.𝓛 g.world.𝓜 g.world.𝓡 ((λ s x. x), (λ x. x), (λ x. x), (λ x. x))) in
    let zero : g.K.Kind.small_of g.K.Kind.fresh_held ≡ Some (pos 0) = kind.small_is g.K.Kind.fresh_held (pos 0) (pos 0) kind.fresh_stands ∙ kind.laws.small_zero in
    fresh_held f (kind.small_back g.K.Kind.fresh_held (pos 0) (pos 0) (pos 0) kind.fresh_stands zero) c.in-Ok.side.entries (spare c.in-Ok.side) c.args.changes c.args.cells c.in_ok-bytes.bytes.items c.in_ok-bytes.ensures.items
