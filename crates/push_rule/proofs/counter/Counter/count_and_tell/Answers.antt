use Rattle.std.proofs.Common.{rules, ◌≡◌, ◌<◌, ◌≤◌, ◌-◌, ◌++◌, ◌∷◌, [], ◌∙◌, sym, ap, subst, refl, false, w64, arith, length, length-take}
use Rattle.std.specs.Prelude.{◌&&◌, nat_le, Some, None}
use Rattle.std.proofs.lemmas.Int.{to_z-of_z}
use mir.Val.{SFits}
use Rattle.hash_rows.specs.declared.shape.Push.{Push}
use Rattle.push_history.specs.declared.event.Reply.TheVariants.{Pushed}
use Rattle.push_history.specs.LagRun.{updates_by, is_wait}
use Rattle.push_rule.specs.Counters.{CounterView, in_lane}
use Rattle.push_rule.specs.Keeps.{Keeps}
use Rattle.push_rule.proofs.CounterSteps.{owes_next, counted_next, sent_next, refused_next, queued_is, after_quiet, after_refused, after_sent, distance_is, leave_of}
use Rattle.push_rule.proofs.counter.Counter.count_and_tell.Goals as goal

pub returns-in-None-clause-keeps : goal.returns-in-None-clause-keeps
returns-in-None-clause-keeps g c = λ t w x same keeps lt at not.
    let fits : SFits w64 c.args.value = search rules in
    let value = to_z-of_z w64 c.args.value fits in
    let inner = subst (λ (d : CounterView g.row.K-Held.Denot). Keeps g.K.Kind.stands t w d x) (sym c.self.view_is) keeps in
    let near = owes_next g.K.Kind.stands t w _ x (record { packet = c.args.packet; key = c.args.key.now; cell = c.args.cell; value = c.args.value }) inner lt at g.K.Kind.rules same _ value None c.in-None.ensures.due in
    let stood = counted_next g.K.Kind.stands t w _ x (record { packet = c.args.packet; key = c.args.key.now; cell = c.args.cell; value = c.args.value }) inner lt at g.K.Kind.rules same _ value c.count.new.self c.in-None.ensures.stands in
    after_quiet g.K.Kind.stands t w _ x (record { packet = c.args.packet; key = c.args.key.now; cell = c.args.cell; value = c.args.value }) inner lt at _
    (record { worker = refl; lane = refl; full = refl; room = refl; taken = refl; threshold = c.in-None.ensures.threshold; updates = c.in-None.ensures.room_stays; cells = c.in-None.ensures.cells })
    c.in-None.ensures.marked near stood refl

pub returns-then-len-self-clause-keeps : goal.returns-then-len-self-clause-keeps
returns-then-len-self-clause-keeps g c = λ t w x same keeps lt at not.
    let fits : SFits w64 c.args.value = search rules in
    let value = to_z-of_z w64 c.args.value fits in
    let inner = subst (λ (d : CounterView g.row.K-Held.Denot). Keeps g.K.Kind.stands t w d x) (sym c.self.view_is) keeps in
    let far = owes_next g.K.Kind.stands t w _ x (record { packet = c.args.packet; key = c.args.key.now; cell = c.args.cell; value = c.args.value }) inner lt at g.K.Kind.rules same _ value (Some c.in-Some.amount) c.in-Some.ensures.due in
    let stood = counted_next g.K.Kind.stands t w _ x (record { packet = c.args.packet; key = c.args.key.now; cell = c.args.cell; value = c.args.value }) inner lt at g.K.Kind.rules same _ value c.count.new.self c.in-Some.ensures.stands in
    let refused = refused_next g.K.Kind.stands t w _ x (record { packet = c.args.packet; key = c.args.key.now; cell = c.args.cell; value = c.args.value }) inner lt at g.K.Kind.rules same c.count.new.self c.refused.new.self stood c.refused.ensures.stands in
    let filled : c.self.inside.lane ≤ length c.self.inside.queue.items - c.self.inside.taken = search rules in
    let filled_view : c.args.self.now.lane ≤ in_lane c.args.self.now = subst (λ (d : CounterView g.row.K-Held.Denot). d.lane ≤ in_lane d) c.self.view_is filled in
    let quiet = subst (λ n. (is_wait c.args.self.now.full && (nat_le c.args.self.now.lane (in_lane c.args.self.now) && nat_le t.threshold n)) ≡ false) (distance_is g.K.Kind.stands t w _ x (record { packet = c.args.packet; key = c.args.key.now; cell = c.args.cell; value = c.args.value }) keeps lt at) not in
    let leave = sym keeps.full ∙ leave_of c.args.self.now.full c.args.self.now.lane (in_lane c.args.self.now) t.threshold _ filled_view far.0 quiet in
    after_refused g.K.Kind.stands t w _ x (record { packet = c.args.packet; key = c.args.key.now; cell = c.args.cell; value = c.args.value }) inner lt at _
    (record { worker = refl; lane = refl; full = refl; room = refl; taken = refl; threshold = c.refused.ensures.threshold ∙ c.in-Some.ensures.threshold; updates = c.refused.ensures.room ∙ c.in-Some.ensures.room_stays; cells = ap length c.refused.ensures.held ∙ c.in-Some.ensures.cells })
    c.refused.ensures.idle far.0 filled leave refused refl

pub returns-else-len-self-clause-keeps : goal.returns-else-len-self-clause-keeps
returns-else-len-self-clause-keeps g c = λ t w x same keeps lt at not.
    let fits : SFits w64 c.args.value = search rules in
    let value = to_z-of_z w64 c.args.value fits in
    let inner = subst (λ (d : CounterView g.row.K-Held.Denot). Keeps g.K.Kind.stands t w d x) (sym c.self.view_is) keeps in
    let far = owes_next g.K.Kind.stands t w _ x (record { packet = c.args.packet; key = c.args.key.now; cell = c.args.cell; value = c.args.value }) inner lt at g.K.Kind.rules same _ value (Some c.in-Some.amount) c.in-Some.ensures.due in
    let stood = counted_next g.K.Kind.stands t w _ x (record { packet = c.args.packet; key = c.args.key.now; cell = c.args.cell; value = c.args.value }) inner lt at g.K.Kind.rules same _ value c.count.new.self c.in-Some.ensures.stands in
    let sent = sent_next g.K.Kind.stands t w _ x (record { packet = c.args.packet; key = c.args.key.now; cell = c.args.cell; value = c.args.value }) inner lt at g.K.Kind.rules same c.count.new.self c.sent.new.self c.in-Some.ensures.marked stood c.sent.ensures.stands in
    let fits_amount : SFits w64 c.in-Some.amount = search rules in
    let number : c.counted-number.result - 1 ≡ x.counted = omega (arith, c.counted-number.ensures, c.in-Some.ensures.counted, inner.sketch.all_counted, length-take x.counted (updates_by t w), lt) in
    let message = queued_is g.K.Kind.stands t w _ x (record { packet = c.args.packet; key = c.args.key.now; cell = c.args.cell; value = c.args.value }) inner lt at g.K.Kind.rules same c.self.inside.worker (c.counted-number.result - 1) _ inner.worker number
    (to_z-of_z w64 c.in-Some.amount fits_amount ∙ far.1) in
    let queue = c.push_reserved.ensures.items ∙ ap (λ (m : Push). c.self.inside.queue.items ++ m ∷ []) message in
    let room : length c.self.inside.queue.items - c.self.inside.taken < c.self.inside.lane = search rules in
    let after = after_sent g.K.Kind.stands t w _ x (record { packet = c.args.packet; key = c.args.key.now; cell = c.args.cell; value = c.args.value }) inner lt at _
    (record { worker = refl; lane = refl; full = refl; room = refl; taken = refl; threshold = c.sent.ensures.threshold ∙ c.in-Some.ensures.threshold; updates = c.sent.ensures.room ∙ c.in-Some.ensures.room_stays; cells = c.sent.ensures.cells ∙ c.in-Some.ensures.cells })
    c.sent.ensures.idle far.0 room sent queue in
    (after.0, ap (λ (m : Push). Pushed m.amount) message ∙ after.1)
