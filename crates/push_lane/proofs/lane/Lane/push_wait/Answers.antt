use Rattle.std.proofs.Common.{arith, ◌∙◌, inl, inr, subst, List, length, ◌≤◌, ⊎_elim}
use Rattle.hash_rows.specs.declared.shape.Push.{Push}
use Rattle.push_lane.proofs.lane.Lane.push_wait.Goals as goal

pub loop-preserved : goal.loop-preserved
loop-preserved g c =
    let refused = c.in-Err.ensures.sent in
    let same = c.loop.invariant.1 in (
      c.push.ensures.lane ∙ c.loop.invariant.0,
      refused.1 ∙ same,
      omega (arith, refused.2, c.loop.invariant.2),
      inr (subst (λ (sent : List Push). c.args.self.now.capacity ≤ length sent) same refused.3),
    )

pub returns-in-Ok-clause-full : goal.returns-in-Ok-clause-full
returns-in-Ok-clause-full g c = ⊎_elim (λ same. inl (c.in-Ok.ensures.sent.1 ∙ same)) (λ full. inr full) c.loop.invariant.3
