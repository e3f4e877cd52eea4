use Rattle.std.proofs.Common.{◌∙◌, ◌++◌, ◌∷◌, [], sym, subst, length}
use Rattle.push_history.specs.LagRun.{lag_run, reply_to, State}
use Rattle.push_history.proofs.Runs.{run_more}
use Rattle.lag_core.specs.Lags.{IsCoreAt}
use Rattle.lag_core.specs.Workers.{terms_within}
use Rattle.lag_core.proofs.CoreLaws.{conserves_at, lawful_at}
use Rattle.lag_core.proofs.lag.Lag.step.Goals as goal

pub returns-clause-stands : goal.returns-clause-stands
unfolding reply_to
returns-clause-stands g c = λ events at.
    let r = g.K.Kind.rules in
    let old = c.args.self.now in
    let now = c.run.ensures.step (lag_run (terms_within r old.limits) (length old.seen) events) at in
    let reached = sym (run_more (terms_within r old.limits) (length old.seen) events c.args.event)
    ∙ (λ i. lag_run (terms_within r (sym c.run.ensures.limits i)) (sym c.run.ensures.readers i) (events ++ c.args.event ∷ [])) in
    (subst (λ (s : State). IsCoreAt g.K.Kind.stands r c.run.new.self s) reached now.0, now.1)

pub returns-clause-lawful : goal.returns-clause-lawful
returns-clause-lawful g c = λ events at. lawful_at g.K.Kind.stands g.K.Kind.rules c.run.new.self _ at

pub returns-clause-conserves : goal.returns-clause-conserves
returns-clause-conserves g c = λ events at. conserves_at g.K.Kind.stands g.K.Kind.rules c.run.new.self _ at (g.met.K.Kind g.world.𝓛 g.world.𝓜 g.world.𝓡 ((λ x y. y), (λ x. x), (λ x. x), (λ x. x))).laws
