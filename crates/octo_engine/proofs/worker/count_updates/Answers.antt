use Rattle.std.proofs.Common.{rules, ◌≡◌, ◌≤◌, ◌+◌, ◌-◌, ◌*◌, ◌/◌, ℕ, sym, subst, arith}
use Rattle.push_history.specs.LagRun.{Worker}
use Rattle.push_history.specs.OwnSteps.{counts}
use Rattle.push_rule.specs.Keeps.{Keeps}
use Rattle.octo_engine.proofs.worker.count_updates.Goals as goal

pub returns-clause-keeps : goal.returns-clause-keeps
returns-clause-keeps g c = λ t w x has keeps.
    let rows = c.args.options.now.shape.rows in
    let many = c.args.count / rows in
    let h = c.if-count_packets.ensures.keeps t w x has keeps in
    let kept = c.count_rest-2.ensures.keeps t w h.now has h.keeps in
    let within : rows * many ≤ c.args.count = search rules in
    let all : rows * many + (c.args.count - rows * many) ≡ c.args.count = omega (arith, within) in
    subst (λ (n : ℕ). Keeps g.K.Kind.stands t w c.count_rest-2.new.counter (counts t w n x)) all
    (subst (λ (z : Worker). Keeps g.K.Kind.stands t w c.count_rest-2.new.counter z) (sym (h.rest (c.args.count - rows * many))) kept)
