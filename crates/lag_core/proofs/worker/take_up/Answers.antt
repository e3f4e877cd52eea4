use Rattle.std.proofs.Common.{rules, ◌≡◌, ◌<◌, ◌∙◌, ℤ, List, true, length, refl, sym, ap, subst, w64, arith}
use Rattle.std.proofs.lemmas.Int.{to_z-of_z}
use Rattle.std.proofs.lemmas.Option.{get_or_from_slice_get}
use mir.Val.{SFits}
use Rattle.hash_rows.specs.declared.shape.Update.{Update}
use Rattle.push_history.specs.LagRun.{updates_by}
use Rattle.push_history.specs.Updates.{update_at}
use Rattle.lag_core.specs.Workers.{terms_within}
use Rattle.lag_core.proofs.Counting.{all_over, counted_is, goes_on}
use Rattle.lag_core.proofs.Slots.{all_slot}
use Rattle.lag_core.proofs.worker.take_up.Goals as goal

pub returns-then-next-len-clause-stands : goal.returns-then-next-len-clause-stands
returns-then-next-len-clause-stands g c = λ l w x is h.
    all_over g.K.Kind.stands _ w c.args.worker.now x h (omega (arith, c.if-next-len.true, c.counted-next.ensures, c.len.ensures, ap length is))

pub count-requires-clause-cell : goal.count-requires-clause-cell
count-requires-clause-cell g c κs within =
    all_slot (λ (u : Update). u.cell < length c.args.worker.now.sketch.held) c.args.updates.now.items _ c.get-update.result.now c.requires.cells c.get-update.ensures

pub count-requires-clause-value : goal.count-requires-clause-value
count-requires-clause-value g c κs within =
    let own : g.K.Kind.rules.is_value c.get-update.result.now.value ≡ true =
    all_slot (λ (u : Update). g.K.Kind.rules.is_value u.value ≡ true) c.args.updates.now.items _ c.get-update.result.now c.requires.values c.get-update.ensures in
    search rules

pub returns-clause-stands : goal.returns-clause-stands
returns-clause-stands g c = λ l w x is h.
    let update = c.get-update.result.now in
    let fits : SFits w64 update.value = search rules in
    let place = c.counted-next.ensures ∙ counted_is g.K.Kind.stands _ w c.args.worker.now x h in
    let at = ap (λ (us : List Update). update_at us x.counted) is ∙ ap (update_at c.args.updates.now.items) (sym place) ∙ get_or_from_slice_get c.args.updates.now.items _ update _ c.get-update.ensures in
    let at_value = subst (λ (v : ℤ). update_at (updates_by (terms_within g.K.Kind.rules l) w) x.counted ≡ record { packet = update.packet; key = update.key; cell = update.cell; value = v })
    (sym (to_z-of_z w64 update.value fits)) at in
    goes_on g.K.Kind.stands _ w c.args.worker.now x h c.count.new.self c.count.result c.count.ensures.same c.count.ensures.lane
    (c.count.ensures.keeps _ w x refl h.keeps (omega (arith, c.if-next-len.false, place, c.len.ensures, ap length is)) at_value)
