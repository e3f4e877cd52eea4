use Rattle.std.proofs.Common.{◌≡◌, ◌∙◌, refl, rules, w64, to_z, of_z}
use Rattle.lag_core.proofs.Calls.{residue_read, residue_there, worker_at}
use Rattle.lag_core.proofs.lag.Lag.residue.Goals as goal

pub residue-requires-after_bounds : goal.residue-requires-after_bounds
residue-requires-after_bounds g c κs within =
    residue_there g.K.Kind.stands g.K.Kind.rules _ _ c.self.view_is _ c.self.invariant.1 refl c.args.worker c.index.result.now
    (worker_at g.K.Kind.stands g.K.Kind.rules _ _ c.self.view_is _ c.self.invariant.1 c.args.worker c.index.result.now c.requires.worker c.index.ensures) c.args.cell c.requires.cell

pub returns : goal.returns
returns g c =
    let exact : to_z w64 (of_z w64 c.residue.result) ≡ c.residue.result = search rules in
    residue_read g.K.Kind.stands g.K.Kind.rules _ _ c.self.view_is c.args.worker c.index.result.now
    (worker_at g.K.Kind.stands g.K.Kind.rules _ _ c.self.view_is _ c.self.invariant.1 c.args.worker c.index.result.now c.requires.worker c.index.ensures) c.args.cell _ (λ t k x is keeps. exact ∙ c.residue.ensures.residue t k x is keeps)
