use Rattle.lag_core.proofs.Calls.{refused_read, update_there, worker_at}
use Rattle.lag_core.proofs.lag.Lag.refused_at.Goals as goal

pub refused_at-requires-after_bounds : goal.refused_at-requires-after_bounds
refused_at-requires-after_bounds g c κs within =
    update_there g.K.Kind.stands g.K.Kind.rules _ _ c.self.view_is _ c.self.invariant.1 c.args.worker c.index.result.now
    (worker_at g.K.Kind.stands g.K.Kind.rules _ _ c.self.view_is _ c.self.invariant.1 c.args.worker c.index.result.now c.requires.worker c.index.ensures) c.args.update c.requires.update

pub returns : goal.returns
returns g c =
    refused_read g.K.Kind.stands g.K.Kind.rules _ _ c.self.view_is c.args.worker c.index.result.now
    (worker_at g.K.Kind.stands g.K.Kind.rules _ _ c.self.view_is _ c.self.invariant.1 c.args.worker c.index.result.now c.requires.worker c.index.ensures) c.args.update c.refused_at.result c.refused_at.ensures
