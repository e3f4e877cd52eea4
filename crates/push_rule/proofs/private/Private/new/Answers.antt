use Rattle.std.proofs.Common.{arith}
use Rattle.push_rule.proofs.Standing.{stands_fresh}
use Rattle.push_rule.proofs.private.Private.new.Goals as goal

pub returns-clause-fresh : goal.returns-clause-fresh
returns-clause-fresh g c =
    let kind = (g.met.K.Kind g.world.𝓛 g.world.𝓜 g.world.𝓡 ((λ s x. x), (λ x. x), (λ x. x), (λ x. x))) in
    stands_fresh g.K.Kind.stands g.K.Kind.rules _ g.K.Kind.fresh_held c.args.cells kind.fresh_stands c.in_ok-cells.ensures.held
    (rw (c.in_ok-cells.ensures.idle, c.in_ok-cells.ensures.left) (omega arith)) c.in_ok-cells.ensures.idle c.in_ok-bits.ensures
