use Rattle.std.proofs.Common.{rules, ◌∙◌, sym, ap, subst, w64, List, ◌++◌, ◌∷◌, []}
use Rattle.std.specs.Prelude.{Some, None}
use Rattle.std.proofs.lemmas.Int.{to_z-of_z}
use mir.Val.{SFits}
use Rattle.hash_rows.specs.declared.shape.Push.{Push}
use Rattle.push_rule.proofs.Standing.{whole_own}
use Rattle.push_rule.specs.Stands.{StandsFor}
use Rattle.push_replay.proofs.Replayed.{after_quiet, after_refused, after_sent, owes_here, counted_here, sent_here, message_here}
use Rattle.push_replay.specs.Replays.{first_fault}
use Rattle.push_replay.proofs.Watched.{quiet, none_step, refused_step}
use Rattle.push_replay.proofs.replay.Replay.count.Goals as goal

pub returns-in-None-clause-replays : goal.returns-in-None-clause-replays
returns-in-None-clause-replays g c = λ w T F U rep refused.
    let fits : SFits w64 c.args.update.now.value = search rules in
    let value = to_z-of_z w64 c.args.update.now.value fits in
    let r = g.K.Kind.rules in
    let u = c.args.update.now in
    let S = c.args.self.now.messages.items in
    let near = owes_here r w T F U u S rep.messages g.K.Kind.stands c.args.self.now.sketch rep.kept rep.sketch rep.threshold _ value None c.in-None.ensures.due in
    let stood = counted_here r w T F U u S rep.messages g.K.Kind.stands c.args.self.now.sketch rep.kept rep.sketch rep.threshold _ value c.count.new.self c.in-None.ensures.stands in
    record {
      messages = after_quiet r w T F U u S rep.messages near;
      kept = rep.kept;
      sketch = stood;
      idle = c.in-None.ensures.marked;
      threshold = c.in-None.ensures.threshold ∙ rep.threshold;
      worker = rep.worker;
    }

pub returns-then-refused-clause-replays : goal.returns-then-refused-clause-replays
returns-then-refused-clause-replays g c = λ w T F U rep refused.
    let fits : SFits w64 c.args.update.now.value = search rules in
    let value = to_z-of_z w64 c.args.update.now.value fits in
    let r = g.K.Kind.rules in
    let u = c.args.update.now in
    let S = c.args.self.now.messages.items in
    let stood = counted_here r w T F U u S rep.messages g.K.Kind.stands c.args.self.now.sketch rep.kept rep.sketch rep.threshold _ value c.count.new.self c.in-Some.ensures.stands in
    record {
      messages = after_refused r w T F U u S rep.messages (sym refused ∙ c.if-refused.true);
      kept = _;
      sketch = c.refused.ensures.stands _ _ _ stood;
      idle = c.refused.ensures.idle;
      threshold = c.refused.ensures.threshold ∙ c.in-Some.ensures.threshold ∙ rep.threshold;
      worker = rep.worker;
    }

pub returns-in-Ok-clause-replays : goal.returns-in-Ok-clause-replays
returns-in-Ok-clause-replays g c = λ w T F U rep refused.
    let fits : SFits w64 c.args.update.now.value = search rules in
    let value = to_z-of_z w64 c.args.update.now.value fits in
    let fits_amount : SFits w64 c.in-Some.amount = search rules in
    let r = g.K.Kind.rules in
    let u = c.args.update.now in
    let S = c.args.self.now.messages.items in
    let far = owes_here r w T F U u S rep.messages g.K.Kind.stands c.args.self.now.sketch rep.kept rep.sketch rep.threshold _ value (Some c.in-Some.amount) c.in-Some.ensures.due in
    let stood = counted_here r w T F U u S rep.messages g.K.Kind.stands c.args.self.now.sketch rep.kept rep.sketch rep.threshold _ value c.count.new.self c.in-Some.ensures.stands in
    let sent = sent_here r w T F U u S rep.messages g.K.Kind.stands c.args.self.now.sketch rep.kept rep.sketch rep.threshold c.count.new.self c.sent.new.self c.in-Some.ensures.marked stood c.sent.ensures.stands in
    let number = c.counted-number.ensures ∙ rep.sketch.all_counted in
    let amount = to_z-of_z w64 c.in-Some.amount fits_amount ∙ far.1 ∙ ap (r.gap _) (sym (whole_own r U u)) in
    let message = message_here r w T F U u S rep.messages c.args.self.now.worker c.counted-number.result _ rep.worker number amount in
    let items = c.in-Ok.ensures.items ∙ ap (λ (m : Push). S ++ m ∷ []) message in
    record {
      messages = items ∙ after_sent r w T F U u S rep.messages far.0 (sym refused ∙ c.if-refused.false);
      kept = rep.kept;
      sketch = subst (λ (t : List Push). StandsFor g.K.Kind.stands r c.sent.new.self (U ++ u ∷ []) t rep.kept) (sym items) sent;
      idle = c.sent.ensures.idle;
      threshold = c.sent.ensures.threshold ∙ c.in-Some.ensures.threshold ∙ rep.threshold;
      worker = rep.worker;
    }

pub returns-in-Ok-clause-watches : goal.returns-in-Ok-clause-watches
returns-in-Ok-clause-watches g c = λ w T F U rep refused first.
    quiet g.K.Kind.rules w T c.args.self.now.lane F U c.args.update.now c.args.self.now.messages.items rep.messages c.args.self.now.fault first (sym refused ∙ c.if-refused.false)

pub returns-in-None-clause-watches : goal.returns-in-None-clause-watches
returns-in-None-clause-watches g c = λ w T F U rep refused first.
    let fits : SFits w64 c.args.update.now.value = search rules in
    let value = to_z-of_z w64 c.args.update.now.value fits in
    let r = g.K.Kind.rules in
    let u = c.args.update.now in
    let S = c.args.self.now.messages.items in
    let near = owes_here r w T F U u S rep.messages g.K.Kind.stands c.args.self.now.sketch rep.kept rep.sketch rep.threshold _ value None c.in-None.ensures.due in
    let stood = counted_here r w T F U u S rep.messages g.K.Kind.stands c.args.self.now.sketch rep.kept rep.sketch rep.threshold _ value c.count.new.self c.in-None.ensures.stands in
    let distance = c.distance-distance.ensures _ _ (stood.cells u.cell) ∙ ap (r.distance _) (whole_own r U u) in
    none_step r w T c.args.self.now.lane F U u S rep.messages c.args.self.now.fault c.first_of-self.result c.args.refused c.counted-number.result c.distance-distance.result first refused
    (c.counted-number.ensures ∙ rep.sketch.all_counted) distance near
    (c.first_of-self.ensures ∙ ap (first_fault c.args.self.now.fault) c.near_of.ensures)

pub returns-then-refused-clause-watches : goal.returns-then-refused-clause-watches
returns-then-refused-clause-watches g c = λ w T F U rep refused first.
    let fits : SFits w64 c.args.update.now.value = search rules in
    let value = to_z-of_z w64 c.args.update.now.value fits in
    let r = g.K.Kind.rules in
    let u = c.args.update.now in
    let S = c.args.self.now.messages.items in
    let far = owes_here r w T F U u S rep.messages g.K.Kind.stands c.args.self.now.sketch rep.kept rep.sketch rep.threshold _ value (Some c.in-Some.amount) c.in-Some.ensures.due in
    refused_step r w T c.args.self.now.lane F U u S rep.messages c.args.self.now.fault c.first_of-self-then-refused.result c.counted-number.result c.len-messages.result first (sym refused ∙ c.if-refused.true)
    (c.counted-number.ensures ∙ rep.sketch.all_counted) (search rules) far.0
    (c.first_of-self-then-refused.ensures ∙ ap (first_fault c.args.self.now.fault) c.few_of.ensures)
