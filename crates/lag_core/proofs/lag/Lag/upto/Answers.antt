use Rattle.lag_core.proofs.Calls.{front_there, upto_read}
use Rattle.lag_core.proofs.lag.Lag.upto.Goals as goal

pub get-requires : goal.get-requires
get-requires g c = (front_there g.K.Kind.stands g.K.Kind.rules _ _ c.self.view_is _ c.self.invariant.1 c.args.worker c.requires).1

pub returns : goal.returns
returns g c = upto_read g.K.Kind.stands g.K.Kind.rules _ _ c.self.view_is c.args.worker c.get.result.now c.get.ensures
