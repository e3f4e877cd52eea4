use Rattle.std.proofs.Common.{arith, ◌≡◌, ◌≤◌, ◌+◌, ◌-◌, ◌++◌, ℕ, List, length, take, drop, refl, sym, ap, ◌∙◌, subst, length-take, length-append}
use Rattle.std.proofs.lemmas.List.{take-append-drop}
use Rattle.pcapng_read.specs.Blocks.{judged, keep_of}
use Rattle.pcapng_read.specs.Capture.{RefusesNext}
use Rattle.pcapng_read.specs.View.{NgReaderView}
use Rattle.pcapng_read.specs.declared.block.Judged.TheVariants.{Known, Waits, Refused}
use Rattle.pcapng_read.proofs.Views.{plain_view, not_lending, stands_inside, in_block}
use Rattle.pcapng_read.proofs.Blocks.{known_late}
use Rattle.pcapng_read.proofs.Kept.{all_kept}
use Rattle.pcapng_read.proofs.Steps.{takes_head, refuses_head}
use Rattle.pcapng_read.proofs.reader.NgReader.take_head.Goals as goal

pub invariant_of-self-in-Known : goal.invariant_of-self-in-Known
invariant_of-self-in-Known c =
    let f = not_lending c.self.inside c.args.self.now c.self.view_is c.requires.lent in
    let waits : c.self.inside.judged ≡ Waits c.args.count = ap (λ (p : NgReaderView). p.judged) c.self.view_is ∙ c.requires.waits in
    let at = in_block c.self.inside (Waits c.args.count) f waits c.self.invariant.within in
    let now : judged c.self.inside.limit c.self.inside.walk (c.self.inside.held.items ++ take c.fill-used.result c.args.piece.now) ≡ Known c.in-Known.plan =
    ap (judged c.self.inside.limit c.self.inside.walk) (sym (c.deref.ensures.value ∙ c.fill-used.ensures.items)) ∙ sym c.in-Known.ensures.judged in
    let late = known_late c.self.inside.limit c.self.inside.walk c.self.inside.held.items (take c.fill-used.result c.args.piece.now) c.args.count c.in-Known.plan at.3 now in
    let sound = c.in-Known.ensures.sound.1 in
    let few : c.self.inside.seen + c.fill-used.result ≤ c.args.count = omega (arith, c.fill-used.ensures.used, at.0, at.1) in
    rw f (record {
      room = omega (arith, c.self.invariant.room, c.fill-used.ensures.capacity);
      counted = c.self.invariant.counted;
      packets = c.self.invariant.packets;
      others = c.self.invariant.others;
      within = (sound, omega (arith, few, late, sound.room), omega (arith, few, late, sound.room, c.fill-used.ensures.len, at.0));
    })

pub returns-in-Refused-clause-takes : goal.returns-in-Refused-clause-takes
returns-in-Refused-clause-takes c = λ b fs stands.
    let f = not_lending c.self.inside c.args.self.now c.self.view_is c.requires.lent in
    let waits : c.self.inside.judged ≡ Waits c.args.count = ap (λ (p : NgReaderView). p.judged) c.self.view_is ∙ c.requires.waits in
    let piece = c.args.piece.now in
    let used = c.fill-used.result in
    let now : judged c.self.inside.limit c.self.inside.walk (c.self.inside.held.items ++ take used piece) ≡ Refused c.in-Refused.bad =
    ap (judged c.self.inside.limit c.self.inside.walk) (sym (c.deref.ensures.value ∙ c.fill-used.ensures.items)) ∙ sym c.in-Refused.ensures.judged in
    subst (λ (t : List ℕ). RefusesNext c.args.self.now.limit (b ++ t) fs c.in-Refused.bad) (take-append-drop used piece)
    (subst (λ (p : NgReaderView). RefusesNext p.limit (b ++ (take used piece ++ drop used piece)) fs c.in-Refused.bad) c.self.view_is
    (refuses_head (plain_view c.self.inside) b (take used piece) (drop used piece) fs c.args.count c.in-Refused.bad waits now
    (stands_inside c.self.inside c.args.self.now b fs c.self.view_is f stands)))

pub returns-in-Waits-clause-takes : goal.returns-in-Waits-clause-takes
returns-in-Waits-clause-takes c = λ b fs stands.
    let f = not_lending c.self.inside c.args.self.now c.self.view_is c.requires.lent in
    let waits : c.self.inside.judged ≡ Waits c.args.count = ap (λ (p : NgReaderView). p.judged) c.self.view_is ∙ c.requires.waits in
    let x = take c.fill-used.result c.args.piece.now in
    let at = in_block c.self.inside (Waits c.args.count) f waits c.self.invariant.within in
    let now : Waits c.in-Waits.count ≡ judged c.self.inside.limit c.self.inside.walk (c.self.inside.held.items ++ x) =
    c.in-Waits.ensures.judged ∙ ap (judged c.self.inside.limit c.self.inside.walk) (c.deref.ensures.value ∙ c.fill-used.ensures.items) in
    let bound : c.fill-used.result ≤ length c.args.piece.now = omega (arith, c.fill-used.ensures.used) in
    let seen : c.self.inside.seen + c.fill-used.result ≡ c.self.inside.seen + length x = omega (arith, bound, length-take c.fill-used.result c.args.piece.now) in
    rw f (takes_head (plain_view c.self.inside) _ b x fs c.args.count waits refl refl now tt seen c.fill-used.ensures.items refl
    (stands_inside c.self.inside c.args.self.now b fs c.self.view_is f stands))

pub returns-in-Known-clause-takes : goal.returns-in-Known-clause-takes
returns-in-Known-clause-takes c = λ b fs stands.
    let f = not_lending c.self.inside c.args.self.now c.self.view_is c.requires.lent in
    let waits : c.self.inside.judged ≡ Waits c.args.count = ap (λ (p : NgReaderView). p.judged) c.self.view_is ∙ c.requires.waits in
    let x = take c.fill-used.result c.args.piece.now in
    let plan = c.in-Known.plan in
    let at = in_block c.self.inside (Waits c.args.count) f waits c.self.invariant.within in
    let now : Known plan ≡ judged c.self.inside.limit c.self.inside.walk (c.self.inside.held.items ++ x) =
    c.in-Known.ensures.judged ∙ ap (judged c.self.inside.limit c.self.inside.walk) (c.deref.ensures.value ∙ c.fill-used.ensures.items) in
    let late = known_late c.self.inside.limit c.self.inside.walk c.self.inside.held.items x c.args.count plan at.3 (sym now) in
    let sound = c.in-Known.ensures.sound.1 in
    let bound : c.fill-used.result ≤ length c.args.piece.now = omega (arith, c.fill-used.ensures.used) in
    let seen : c.self.inside.seen + c.fill-used.result ≡ c.self.inside.seen + length x = omega (arith, bound, length-take c.fill-used.result c.args.piece.now) in
    let few : length (c.self.inside.held.items ++ x) ≤ keep_of plan =
    omega (arith, c.fill-used.ensures.used, at.0, at.1, late, bound, length-append c.self.inside.held.items x, length-take c.fill-used.result c.args.piece.now) in
    rw f (takes_head (plain_view c.self.inside) _ b x fs c.args.count waits refl refl now (omega (arith, few, sound.room)) seen c.fill-used.ensures.items
    (all_kept (keep_of plan) (plan.total - 4) (c.self.inside.held.items ++ x) (omega (arith, sound.room)) few)
    (stands_inside c.self.inside c.args.self.now b fs c.self.view_is f stands))
