use Rattle.std.proofs.Common.{sym, subst, refl, List, []}
use Rattle.hash_rows.specs.declared.shape.Push.{Push}
use Rattle.push_rule.specs.Stands.{StandsFor}
use Rattle.given_law.specs.Given.{given_messages}
use Rattle.push_replay.proofs.replay.Replay.new.Goals as goal

pub returns-clause-replays : goal.returns-clause-replays
unfolding given_messages
returns-clause-replays g c = λ refused. record {
  messages = c.new-2.ensures.items;
  kept = [];
  sketch = subst (λ (t : List Push). StandsFor g.K.Kind.stands g.K.Kind.rules c.in_ok-new.field-0 [] t []) (sym c.new-2.ensures.items) c.in_ok-new.ensures.fresh;
  idle = c.in_ok-new.ensures.idle;
  threshold = c.in_ok-new.ensures.threshold;
  worker = refl;
}
