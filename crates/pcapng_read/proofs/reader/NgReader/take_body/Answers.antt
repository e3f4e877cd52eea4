use Rattle.std.proofs.Common.{arith, ◌≡◌, ◌+◌, ◌++◌, ◌∷◌, [], ℕ, List, length, take, drop, refl, sym, ap, ◌∙◌, subst, length-take}
use Rattle.std.proofs.lemmas.List.{take-append-drop}
use Rattle.pcap_read.specs.Header.{number_at}
use Rattle.pcapng_read.specs.Blocks.{judged, keep_of}
use Rattle.pcapng_read.specs.Capture.{RefusesNext}
use Rattle.pcapng_read.specs.View.{NgReaderView}
use Rattle.pcapng_read.specs.declared.block.Walk.{Walk}
use Rattle.pcapng_read.specs.declared.block.Judged.TheVariants.{Known, Waits}
use Rattle.pcapng_read.proofs.Views.{plain_view, not_lending, stands_inside, in_block, no_frame, some_frame, some_keep, behind_few, count_below, frame_at}
use Rattle.pcapng_read.proofs.Steps.{takes_body, takes_other, takes_packet, refuses_end, ready}
use Rattle.pcapng_read.proofs.reader.NgReader.take_body.Goals as goal

pub returns-then-seen-plan-clause-takes : goal.returns-then-seen-plan-clause-takes
returns-then-seen-plan-clause-takes c = λ b fs stands.
    let f = not_lending c.self.inside c.args.self.now c.self.view_is c.requires.lent in
    let known : c.self.inside.judged ≡ Known c.args.plan = ap (λ (p : NgReaderView). p.judged) c.self.view_is ∙ c.requires.known in
    let x = take c.take_part-used.result c.args.piece.now in
    let seen : c.self.inside.seen + c.take_part-used.result ≡ c.self.inside.seen + length x = omega (arith, c.take_part-used.ensures.bound, length-take c.take_part-used.result c.args.piece.now) in
    rw f (takes_body (plain_view c.self.inside) _ b x fs c.args.plan known refl refl known seen c.if-seen-plan.true c.take_part-used.ensures.kept
    (stands_inside c.self.inside c.args.self.now b fs c.self.view_is f stands))

pub invariant_of-self-in-None : goal.invariant_of-self-in-None
invariant_of-self-in-None c =
    let f = not_lending c.self.inside c.args.self.now c.self.view_is c.requires.lent in
    let known : c.self.inside.judged ≡ Known c.args.plan = ap (λ (p : NgReaderView). p.judged) c.self.view_is ∙ c.requires.known in
    let at = in_block c.self.inside (Known c.args.plan) f known c.self.invariant.within in
    let lt = count_below c.self.inside.limit c.self.inside.walk c.args.plan.body c.self.invariant.packets c.self.invariant.others at.0.few in
    let few = behind_few c.self.inside.limit c.self.inside.walk c.args.plan.order c.args.plan.total c.args.plan.body c.self.invariant.packets c.self.invariant.others lt in
    let nothing : judged c.self.inside.limit c.in-Ok.walk c.clear-in-None.new.self.items ≡ Waits 8 =
    ap (judged c.self.inside.limit c.in-Ok.walk) c.clear-in-None.ensures.items ∙ ap (λ (w : Walk). judged c.self.inside.limit w []) c.in-Ok.ensures.walk
    ∙ ready c.self.inside.limit c.self.inside.walk c.args.plan.order c.args.plan.total c.args.plan.body in
    rw f (record {
      room = omega (arith, c.self.invariant.room, c.take_part-used.ensures.capacity, c.clear-in-None.ensures.capacity);
      counted = c.in-Ok.ensures.counted;
      packets = omega (arith, few.0, ap (λ (w : Walk). w.packets) c.in-Ok.ensures.walk);
      others = omega (arith, few.1, ap (λ (w : Walk). w.others) c.in-Ok.ensures.walk);
      within = (c.clear-in-None.ensures.len, omega arith, omega arith, nothing);
    })

pub invariant_of-self-in-Some : goal.invariant_of-self-in-Some
invariant_of-self-in-Some c =
    let f = not_lending c.self.inside c.args.self.now c.self.view_is c.requires.lent in
    let known : c.self.inside.judged ≡ Known c.args.plan = ap (λ (p : NgReaderView). p.judged) c.self.view_is ∙ c.requires.known in
    let at = in_block c.self.inside (Known c.args.plan) f known c.self.invariant.within in
    let lt = count_below c.self.inside.limit c.self.inside.walk c.args.plan.body c.self.invariant.packets c.self.invariant.others at.0.few in
    let few = behind_few c.self.inside.limit c.self.inside.walk c.args.plan.order c.args.plan.total c.args.plan.body c.self.invariant.packets c.self.invariant.others lt in
    let data_end = some_keep c.args.plan.body c.in-Some.place c.in-Some.ensures in
    let nothing : judged c.self.inside.limit c.in-Ok.walk [] ≡ Waits 8 =
    ap (λ (w : Walk). judged c.self.inside.limit w []) c.in-Ok.ensures.walk ∙ ready c.self.inside.limit c.self.inside.walk c.args.plan.order c.args.plan.total c.args.plan.body in
    record {
      room = omega (arith, c.self.invariant.room, c.take_part-used.ensures.capacity);
      counted = c.in-Ok.ensures.counted;
      packets = omega (arith, few.0, ap (λ (w : Walk). w.packets) c.in-Ok.ensures.walk);
      others = omega (arith, few.1, ap (λ (w : Walk). w.others) c.in-Ok.ensures.walk);
      within = record {
        inside = omega (arith, data_end, c.take_part-used.ensures.len, c.take_part-used.ensures.within, c.if-seen-plan.false, at.0.room);
        next = refl;
        none = refl;
        ready = nothing;
      };
    }

pub returns-in-Err-clause-takes : goal.returns-in-Err-clause-takes
returns-in-Err-clause-takes c = λ b fs stands.
    let f = not_lending c.self.inside c.args.self.now c.self.view_is c.requires.lent in
    let known : c.self.inside.judged ≡ Known c.args.plan = ap (λ (p : NgReaderView). p.judged) c.self.view_is ∙ c.requires.known in
    let piece = c.args.piece.now in
    let used = c.take_part-used.result in
    let held = c.take_part-used.new.held.items in
    let whole : c.self.inside.seen + length (take used piece) ≡ c.args.plan.total =
    omega (arith, c.take_part-used.ensures.bound, c.take_part-used.ensures.within, c.if-seen-plan.false, length-take used piece) in
    let number : number_at c.args.plan.order 4 c.deref.result.now c.keep.result ≡ number_at c.args.plan.order 4 held (keep_of c.args.plan) =
    ap (λ (t : List ℕ). number_at c.args.plan.order 4 t c.keep.result) c.deref.ensures.value ∙ ap (number_at c.args.plan.order 4 held) c.keep.ensures in
    subst (λ (t : List ℕ). RefusesNext c.args.self.now.limit (b ++ t) fs c.in-Err.bad) (take-append-drop used piece)
    (subst (λ (p : NgReaderView). RefusesNext p.limit (b ++ (take used piece ++ drop used piece)) fs c.in-Err.bad) c.self.view_is
    (refuses_end (plain_view c.self.inside) b (take used piece) (drop used piece) held fs c.args.plan c.in-Err.bad known whole c.take_part-used.ensures.kept
    (λ e. c.in-Err.ensures.wrong (number ∙ e)) c.in-Err.ensures.bad (stands_inside c.self.inside c.args.self.now b fs c.self.view_is f stands)))

pub returns-in-None-clause-takes : goal.returns-in-None-clause-takes
returns-in-None-clause-takes c = λ b fs stands.
    let f = not_lending c.self.inside c.args.self.now c.self.view_is c.requires.lent in
    let known : c.self.inside.judged ≡ Known c.args.plan = ap (λ (p : NgReaderView). p.judged) c.self.view_is ∙ c.requires.known in
    let piece = c.args.piece.now in
    let used = c.take_part-used.result in
    let held = c.take_part-used.new.held.items in
    let whole : c.self.inside.seen + length (take used piece) ≡ c.args.plan.total =
    omega (arith, c.take_part-used.ensures.bound, c.take_part-used.ensures.within, c.if-seen-plan.false, length-take used piece) in
    let number : number_at c.args.plan.order 4 c.deref.result.now c.keep.result ≡ number_at c.args.plan.order 4 held (keep_of c.args.plan) =
    ap (λ (t : List ℕ). number_at c.args.plan.order 4 t c.keep.result) c.deref.ensures.value ∙ ap (number_at c.args.plan.order 4 held) c.keep.ensures in
    rw f (takes_other (plain_view c.self.inside) _ b (take used piece) held fs c.args.plan (no_frame c.args.plan.body held c.in-None.ensures) known refl c.in-Ok.ensures.walk refl refl
    c.clear-in-None.ensures.items whole c.take_part-used.ensures.kept (sym number ∙ c.in-Ok.ensures.ends) (stands_inside c.self.inside c.args.self.now b fs c.self.view_is f stands))

pub returns-in-Some-clause-takes : goal.returns-in-Some-clause-takes
returns-in-Some-clause-takes c = λ b fs stands.
    let f = not_lending c.self.inside c.args.self.now c.self.view_is c.requires.lent in
    let known : c.self.inside.judged ≡ Known c.args.plan = ap (λ (p : NgReaderView). p.judged) c.self.view_is ∙ c.requires.known in
    let piece = c.args.piece.now in
    let used = c.take_part-used.result in
    let held = c.take_part-used.new.held.items in
    let whole : c.self.inside.seen + length (take used piece) ≡ c.args.plan.total =
    omega (arith, c.take_part-used.ensures.bound, c.take_part-used.ensures.within, c.if-seen-plan.false, length-take used piece) in
    let number : number_at c.args.plan.order 4 c.deref.result.now c.keep.result ≡ number_at c.args.plan.order 4 held (keep_of c.args.plan) =
    ap (λ (t : List ℕ). number_at c.args.plan.order 4 t c.keep.result) c.deref.ensures.value ∙ ap (number_at c.args.plan.order 4 held) c.keep.ensures in
    record {
      next = frame_at c.in-Some.place held;
      stands = takes_packet (plain_view c.self.inside) _ b (take used piece) held fs (frame_at c.in-Some.place held ∷ []) c.args.plan
          (some_frame c.args.plan.body held c.in-Some.place c.in-Some.ensures) known refl c.in-Ok.ensures.walk refl refl refl whole
          c.take_part-used.ensures.kept (sym number ∙ c.in-Ok.ensures.ends) (stands_inside c.self.inside c.args.self.now b fs c.self.view_is f stands);
      lent = refl;
    }
