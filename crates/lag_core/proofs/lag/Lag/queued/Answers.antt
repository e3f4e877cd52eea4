use Rattle.lag_core.proofs.Calls.{queued_read, worker_at}
use Rattle.lag_core.proofs.lag.Lag.queued.Goals as goal

pub returns : goal.returns
returns g c =
    queued_read g.K.Kind.stands g.K.Kind.rules _ _ c.self.view_is c.args.worker c.index.result.now
    (worker_at g.K.Kind.stands g.K.Kind.rules _ _ c.self.view_is _ c.self.invariant.1 c.args.worker c.index.result.now c.requires c.index.ensures) c.held.result c.held.ensures
