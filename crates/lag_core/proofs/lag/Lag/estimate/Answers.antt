use Rattle.std.proofs.Common.{◌≡◌, ◌∙◌, ap, refl, rules, w64, to_z, of_z}
use Rattle.hash_rows.specs.Rules.{rules_of}
use Rattle.lag_core.proofs.Calls.{estimate_read, near_read}
use Rattle.lag_core.proofs.lag.Lag.estimate.Goals as goal

pub returns-clause-shown : goal.returns-clause-shown
returns-clause-shown g c =
    let exact : to_z w64 (of_z w64 c.estimate.result) ≡ c.estimate.result = search rules in
    estimate_read g.K.Kind.stands g.K.Kind.rules _ _ c.self.view_is (g.met.K.Kind g.world.𝓛 g.world.𝓜 g.world.𝓡 ((λ x y. y), (λ x. x), (λ x. x), (λ x. x))).laws refl
    c.args.key.now _ (exact ∙ c.estimate.ensures)

pub returns-clause-near : goal.returns-clause-near
returns-clause-near g c = λ is.
    let kind = (g.met.K.Kind g.world.𝓛 g.world.𝓜 g.world.𝓡 ((λ x y. y), (λ x. x), (λ x. x), (λ x. x))) in
    let exact : to_z w64 (of_z w64 c.estimate.result) ≡ c.estimate.result = search rules in
    near_read g.K.Kind.stands g.K.Kind.rules _ _ c.self.view_is kind.laws refl c.args.key.now _ (exact ∙ c.estimate.ensures) (kind.is_sketch ∙ ap rules_of is)
