use Rattle.std.proofs.Common.{◌∙◌, ap, sym}
use Rattle.hash_rows.specs.Tables.{TableView}
use Rattle.lag_core.proofs.CoreSteps.{folded_cells_long, folded_upto_long, front_long, shown_cells_long, upto_long}
use Rattle.lag_core.proofs.Calls.{publish_done}
use Rattle.lag_core.proofs.lag.Lag.publish.Goals as goal

pub show-requires-clause-shape : goal.show-requires-clause-shape
show-requires-clause-shape g c κs within = ap (λ (t : TableView). t.shape) c.self.invariant.1.shown.table

pub show-requires-clause-cells : goal.show-requires-clause-cells
show-requires-clause-cells g c κs within =
    shown_cells_long _ _ _ c.self.invariant.0 c.self.invariant.1 ∙ sym (folded_cells_long _ _ _ c.self.invariant.0 c.self.invariant.1)

pub show-requires-clause-size : goal.show-requires-clause-size
show-requires-clause-size g c κs within = folded_cells_long _ _ _ c.self.invariant.0 c.self.invariant.1

pub show-requires-clause-front : goal.show-requires-clause-front
show-requires-clause-front g c κs within = front_long _ _ _ c.self.invariant.0 c.self.invariant.1

pub show-requires-clause-upto : goal.show-requires-clause-upto
show-requires-clause-upto g c κs within =
    upto_long _ _ _ c.self.invariant.0 c.self.invariant.1 ∙ sym (folded_upto_long _ _ _ c.self.invariant.0 c.self.invariant.1)

pub invariant_of-self : goal.invariant_of-self
invariant_of-self g c =
    (publish_done g.K.Kind.stands g.K.Kind.rules _ _ c.self.view_is _ c.self.invariant.1 c.show.new.shown c.show.ensures.table c.show.ensures.front
    c.show.ensures.upto c.show.ensures.live c.show.ensures.missed).0

pub returns : goal.returns
returns g c =
    (publish_done g.K.Kind.stands g.K.Kind.rules _ _ c.self.view_is _ c.self.invariant.1 c.show.new.shown c.show.ensures.table c.show.ensures.front
    c.show.ensures.upto c.show.ensures.live c.show.ensures.missed).1
