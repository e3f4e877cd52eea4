use Rattle.std.proofs.Common.{◌≡◌, refl, rules, w64, to_z, of_z}
use Rattle.lag_core.proofs.Calls.{lane_cleared, none_done, one_done}
use Rattle.lag_core.proofs.lag.Lag.take.Goals as goal

pub take_oldest-requires-after_bounds : goal.take_oldest-requires-after_bounds
take_oldest-requires-after_bounds g c κs within =
    lane_cleared g.K.Kind.stands g.K.Kind.rules _ _ c.self.view_is _ c.self.invariant.1 c.args.worker c.index_mut.result.now c.requires c.index_mut.ensures.value

pub invariant_of-self : goal.invariant_of-self
invariant_of-self g c =
    (none_done g.K.Kind.stands g.K.Kind.rules _ _ c.self.view_is _ c.self.invariant.1
    c.args.worker c.index_mut.result.now c.requires c.index_mut.ensures.value c.take_oldest.new.worker c.take_oldest.ensures.cells c.in-None.ensures.stands).0

pub returns-in-None : goal.returns-in-None
returns-in-None g c =
    (none_done g.K.Kind.stands g.K.Kind.rules _ _ c.self.view_is _ c.self.invariant.1
    c.args.worker c.index_mut.result.now c.requires c.index_mut.ensures.value c.take_oldest.new.worker c.take_oldest.ensures.cells c.in-None.ensures.stands).1

pub invariant_of-self-in-Some : goal.invariant_of-self-in-Some
invariant_of-self-in-Some g c =
    (one_done g.K.Kind.stands g.K.Kind.rules _ _ c.self.view_is _ c.self.invariant.1
    c.args.worker c.index_mut.result.now c.requires c.index_mut.ensures.value c.take_oldest.new.worker c.take_oldest.ensures.cells
    refl (g.met.K.Kind g.world.𝓛 g.world.𝓜 g.world.𝓡 ((λ x y. y), (λ x. x), (λ x. x), (λ x. x))).laws c.in-Some.message c.in-Some.message.amount refl c.absorb.new.self c.absorb.ensures c.in-Some.ensures.stands).0

pub returns-in-Some : goal.returns-in-Some
returns-in-Some g c =
    let exact : to_z w64 (of_z w64 c.in-Some.message.amount) ≡ c.in-Some.message.amount = search rules in
    (one_done g.K.Kind.stands g.K.Kind.rules _ _ c.self.view_is _ c.self.invariant.1
    c.args.worker c.index_mut.result.now c.requires c.index_mut.ensures.value c.take_oldest.new.worker c.take_oldest.ensures.cells
    refl (g.met.K.Kind g.world.𝓛 g.world.𝓜 g.world.𝓡 ((λ x y. y), (λ x. x), (λ x. x), (λ x. x))).laws c.in-Some.message _ exact c.absorb.new.self c.absorb.ensures c.in-Some.ensures.stands).1
