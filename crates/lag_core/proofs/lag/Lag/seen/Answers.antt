use Rattle.lag_core.proofs.CoreSteps.{seen_shown}
use Rattle.lag_core.proofs.Calls.{seen_at, seen_cell, seen_read}
use Rattle.lag_core.proofs.lag.Lag.seen.Goals as goal

pub get-requires : goal.get-requires
get-requires g c = seen_cell g.K.Kind.stands g.K.Kind.rules _ _ c.self.view_is _ c.self.invariant.1 c.args.worker c.requires.worker c.args.reader c.requires.reader c.index.result.now c.index.ensures

pub returns-clause-front : goal.returns-clause-front
returns-clause-front g c =
    seen_read g.K.Kind.stands g.K.Kind.rules _ _ c.self.view_is c.args.reader c.args.worker c.get.result.now c.index.result.now
    (seen_at g.K.Kind.stands g.K.Kind.rules _ _ c.self.view_is _ c.self.invariant.1 c.args.reader c.requires.reader c.index.result.now c.index.ensures) c.get.ensures

pub returns-clause-shown : goal.returns-clause-shown
returns-clause-shown g c = λ events at. seen_shown g.K.Kind.stands g.K.Kind.rules c.args.self.now _ at c.args.reader c.requires.reader
