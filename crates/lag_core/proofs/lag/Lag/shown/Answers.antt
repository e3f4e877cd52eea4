use Rattle.std.proofs.Common.{◌≡◌, ◌∙◌, refl, rules, w64, to_z, of_z}
use Rattle.lag_core.proofs.Calls.{cell_there, shown_read}
use Rattle.lag_core.proofs.lag.Lag.shown.Goals as goal

pub cell-requires-after_bounds : goal.cell-requires-after_bounds
cell-requires-after_bounds g c κs within = cell_there g.K.Kind.stands g.K.Kind.rules _ _ c.self.view_is _ c.self.invariant.1 refl c.args.cell c.requires

pub returns : goal.returns
returns g c =
    let exact : to_z w64 (of_z w64 c.cell.result) ≡ c.cell.result = search rules in
    shown_read g.K.Kind.stands g.K.Kind.rules _ _ c.self.view_is (g.met.K.Kind g.world.𝓛 g.world.𝓜 g.world.𝓡 ((λ x y. y), (λ x. x), (λ x. x), (λ x. x))).laws refl
    c.args.cell c.requires _ (exact ∙ c.cell.ensures.value)
