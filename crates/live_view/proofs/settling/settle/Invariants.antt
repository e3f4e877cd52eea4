use Rattle.live_view.proofs.Settled.{Settling}
use Rattle.live_view.proofs.settling.settle.Given as goal

abbrev pub invariant-loop : goal.invariant-loop
invariant-loop g l =
    (goal.iterator-loop g).can_next l.iterator' × (goal.iterator-loop g).is_finite l.iterator'
    × Settling g.K.Kind.rules l.fn.view l.fn.writer.published l.keys l.fn.into l.view l.into
