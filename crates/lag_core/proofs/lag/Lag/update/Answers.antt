use Rattle.lag_core.proofs.CoreSteps.{row_at}
use Rattle.lag_core.proofs.Calls.{update_asks, update_done}
use Rattle.lag_core.proofs.lag.Lag.update.Goals as goal

pub take_up-requires-after_bounds : goal.take_up-requires-after_bounds
take_up-requires-after_bounds g c κs within =
    update_asks g.K.Kind.stands g.K.Kind.rules _ _ c.self.view_is _ c.self.invariant.1
    c.args.worker c.index_mut.result.now c.requires c.index_mut.ensures.value c.get-updates.result.now.items (row_at c.self.inside.updates.items c.args.worker c.get-updates.result.now c.get-updates.ensures)

pub invariant_of-self : goal.invariant_of-self
invariant_of-self g c =
    (update_done g.K.Kind.stands g.K.Kind.rules _ _ c.self.view_is _ c.self.invariant.1
    c.args.worker c.index_mut.result.now c.requires c.index_mut.ensures.value c.take_up.new.worker c.take_up.ensures.cells
    c.get-updates.result.now.items (row_at c.self.inside.updates.items c.args.worker c.get-updates.result.now c.get-updates.ensures) c.take_up.result c.take_up.ensures.stands).0

pub returns : goal.returns
returns g c =
    (update_done g.K.Kind.stands g.K.Kind.rules _ _ c.self.view_is _ c.self.invariant.1
    c.args.worker c.index_mut.result.now c.requires c.index_mut.ensures.value c.take_up.new.worker c.take_up.ensures.cells
    c.get-updates.result.now.items (row_at c.self.inside.updates.items c.args.worker c.get-updates.result.now c.get-updates.ensures) c.take_up.result c.take_up.ensures.stands).1
