use Rattle.std.proofs.Common.{rules, ◌<◌, ◌≤◌, ◌∙◌, refl, w64, ◌^◌, arith, ◌++◌, ◌∷◌, [], List, length, ap, subst, ◌-◌, to_z, of_z}
use Rattle.std.specs.Prelude.{Some, None}
use Rattle.std.proofs.lemmas.Int.{to_z-of_z}
use mir.Val.{SFits}
use Rattle.hash_rows.specs.declared.shape.Push.{Push}
use Rattle.push_lane.specs.Views.{one_more_or_last}
use Rattle.thread_work.proofs.OneMore.{owes_next, counted_next, told_quiet, told_sent, told_refused}
use Rattle.thread_work.proofs.telling.tell.Goals as goal

pub returns-in-None-clause-told : goal.returns-in-None-clause-told
returns-in-None-clause-told g c = λ U h.
    let fits : SFits w64 c.args.value = search rules in
    let value = to_z-of_z w64 c.args.value fits in
    let near = owes_next g.K.Kind.stands g.K.Kind.rules _ _ _ _ _ U (record { packet = c.args.packet; key = c.args.key.now; cell = c.args.cell; value = c.args.value }) h _ value None c.in-None.ensures.due in
    let stood = counted_next g.K.Kind.stands g.K.Kind.rules _ _ _ _ _ U (record { packet = c.args.packet; key = c.args.key.now; cell = c.args.cell; value = c.args.value }) h _ value c.count.new.self c.in-None.ensures.stands in
    told_quiet g.K.Kind.stands g.K.Kind.rules _ _ _ _ _ U (record { packet = c.args.packet; key = c.args.key.now; cell = c.args.cell; value = c.args.value }) h c.count.new.self c.in-None.ensures.threshold near stood

pub returns-then-leaves-clause-told : goal.returns-then-leaves-clause-told
returns-then-leaves-clause-told g c = λ U h.
    let fits : SFits w64 c.args.value = search rules in
    let value = to_z-of_z w64 c.args.value fits in
    let far = owes_next g.K.Kind.stands g.K.Kind.rules _ _ _ _ _ U (record { packet = c.args.packet; key = c.args.key.now; cell = c.args.cell; value = c.args.value }) h _ value (Some c.in-Some.amount) c.in-Some.ensures.due in
    let stood = counted_next g.K.Kind.stands g.K.Kind.rules _ _ _ _ _ U (record { packet = c.args.packet; key = c.args.key.now; cell = c.args.cell; value = c.args.value }) h _ value c.count.new.self c.in-Some.ensures.stands in
    let small : c.args.sketch.now.counted < 2 ^ 32 = search rules in
    let refused = c.if-leaves.ensures.left in
    told_refused g.K.Kind.stands g.K.Kind.rules _ _ _ _ _ U (record { packet = c.args.packet; key = c.args.key.now; cell = c.args.cell; value = c.args.value }) h c.count.new.self c.refused.new.self c.leaves.new.pass small stood
    (c.refused.ensures.threshold ∙ c.in-Some.ensures.threshold) far.0 refused.0 refused.2 c.leaves.ensures.sent refused.1 c.refused.ensures.stands

pub returns-then-send-clause-told : goal.returns-then-send-clause-told
returns-then-send-clause-told g c = λ U h.
    let fits : SFits w64 c.args.value = search rules in
    let value = to_z-of_z w64 c.args.value fits in
    let far = owes_next g.K.Kind.stands g.K.Kind.rules _ _ _ _ _ U (record { packet = c.args.packet; key = c.args.key.now; cell = c.args.cell; value = c.args.value }) h _ value (Some c.in-Some.amount) c.in-Some.ensures.due in
    let stood = counted_next g.K.Kind.stands g.K.Kind.rules _ _ _ _ _ U (record { packet = c.args.packet; key = c.args.key.now; cell = c.args.cell; value = c.args.value }) h _ value c.count.new.self c.in-Some.ensures.stands in
    let fits_amount : SFits w64 c.in-Some.amount = search rules in
    let m : Push = record { worker = c.args.worker; packet = c.args.packet; update = c.counted-number.result - 1; key = c.args.key.now; cell = c.args.cell; amount = to_z w64 (of_z w64 c.in-Some.amount) } in
    told_sent g.K.Kind.stands g.K.Kind.rules _ _ _ _ _ U (record { packet = c.args.packet; key = c.args.key.now; cell = c.args.cell; value = c.args.value }) h c.count.new.self c.sent.new.self c.send.new.pass m c.in-Some.ensures.marked stood
    (c.sent.ensures.threshold ∙ c.in-Some.ensures.threshold) far.0 refl refl (omega (arith, c.counted-number.ensures, c.in-Some.ensures.counted)) refl refl (to_z-of_z w64 c.in-Some.amount fits_amount ∙ far.1)
    (c.if-send.ensures.sent.0 ∙ ap (λ (sent : List Push). sent ++ m ∷ []) c.leaves.ensures.sent) (λ leave. c.if-send.ensures.sent.1 leave ∙ c.if-leaves.ensures.left) c.sent.ensures.stands

pub returns-else-send-clause-told : goal.returns-else-send-clause-told
returns-else-send-clause-told g c = λ U h.
    let fits : SFits w64 c.args.value = search rules in
    let value = to_z-of_z w64 c.args.value fits in
    let far = owes_next g.K.Kind.stands g.K.Kind.rules _ _ _ _ _ U (record { packet = c.args.packet; key = c.args.key.now; cell = c.args.cell; value = c.args.value }) h _ value (Some c.in-Some.amount) c.in-Some.ensures.due in
    let stood = counted_next g.K.Kind.stands g.K.Kind.rules _ _ _ _ _ U (record { packet = c.args.packet; key = c.args.key.now; cell = c.args.cell; value = c.args.value }) h _ value c.count.new.self c.in-Some.ensures.stands in
    let small : c.args.sketch.now.counted < 2 ^ 32 = search rules in
    let refused = c.if-send.ensures.sent in
    told_refused g.K.Kind.stands g.K.Kind.rules _ _ _ _ _ U (record { packet = c.args.packet; key = c.args.key.now; cell = c.args.cell; value = c.args.value }) h c.count.new.self c.refused-else-send.new.self c.send.new.pass small stood
    (c.refused-else-send.ensures.threshold ∙ c.in-Some.ensures.threshold) far.0 refused.0 (subst (λ (sent : List Push). c.args.lane.now.capacity ≤ length sent) c.leaves.ensures.sent refused.3) (refused.1 ∙ c.leaves.ensures.sent) (refused.2 ∙ ap one_more_or_last c.if-leaves.ensures.left) c.refused-else-send.ensures.stands
