use Rattle.std.proofs.Common.{arith, ◌≡◌, ◌∷◌, [], ℕ, List, take, drop, refl, sym, ap, ◌∙◌, subst}
use Rattle.pcap_read.specs.Records.{Framed}
use Rattle.pcapng_read.specs.Blocks.{judged}
use Rattle.pcapng_read.specs.Plans.{IsSoundPlan}
use Rattle.pcapng_read.specs.View.{NgReaderView}
use Rattle.pcapng_read.specs.declared.block.Walk.{Walk}
use Rattle.pcapng_read.specs.declared.block.Judged.TheVariants.{Known, Waits}
use Rattle.pcapng_read.proofs.Views.{plain_view, not_lending, stands_inside, some_frame, behind_few, count_below, frame_at}
use Rattle.pcapng_read.proofs.Steps.{lends_front, ready}
use Rattle.pcapng_read.proofs.reader.NgReader.take_known.Goals as goal

pub invariant_of-self : goal.invariant_of-self
invariant_of-self c =
    let f = not_lending c.self.inside c.args.self.now c.self.view_is c.requires.lent in
    let zero : c.self.inside.seen ≡ 0 = ap (λ (p : NgReaderView). p.seen) c.self.view_is ∙ c.requires.seen in
    let sound = subst (λ (p : NgReaderView). IsSoundPlan p.limit p.walk c.args.plan) (sym c.self.view_is) c.requires.sound in
    let lt = count_below c.self.inside.limit c.self.inside.walk c.args.plan.body c.self.invariant.packets c.self.invariant.others sound.few in
    let few = behind_few c.self.inside.limit c.self.inside.walk c.args.plan.order c.args.plan.total c.args.plan.body c.self.invariant.packets c.self.invariant.others lt in
    let nothing : judged c.self.inside.limit c.in-Ok.walk c.clear.new.self.items ≡ Waits 8 =
    ap (judged c.self.inside.limit c.in-Ok.walk) c.clear.ensures.items ∙ ap (λ (w : Walk). judged c.self.inside.limit w []) c.in-Ok.ensures.walk
    ∙ ready c.self.inside.limit c.self.inside.walk c.args.plan.order c.args.plan.total c.args.plan.body in
    rw f (record {
      room = omega (arith, c.self.invariant.room, c.clear.ensures.capacity);
      counted = c.in-Ok.ensures.counted;
      packets = omega (arith, few.0, ap (λ (w : Walk). w.packets) c.in-Ok.ensures.walk);
      others = omega (arith, few.1, ap (λ (w : Walk). w.others) c.in-Ok.ensures.walk);
      within = (c.clear.ensures.len ∙ sym zero, omega (arith, zero), omega arith, nothing);
    })

pub returns-in-Ok-clause-front : goal.returns-in-Ok-clause-front
returns-in-Ok-clause-front c = λ b fs stands.
    let f = not_lending c.self.inside c.args.self.now c.self.view_is c.requires.lent in
    let zero : c.self.inside.seen ≡ 0 = ap (λ (p : NgReaderView). p.seen) c.self.view_is ∙ c.requires.seen in
    let piece = c.args.piece.now in
    let place = c.in_ok-place.place in
    let known = subst (λ (p : NgReaderView). judged p.limit p.walk piece ≡ Known c.args.plan) (sym c.self.view_is) c.requires.known in
    let same : frame_at place piece ≡ record { original = c.frame.result.original; bytes = c.frame.result.bytes.now } =
    ap (λ (n : ℕ). let r : Framed = record { original = n; bytes = take place.captured (drop place.at piece) } in r) (sym c.frame.ensures.original)
    ∙ ap (λ (t : List ℕ). let r : Framed = record { original = c.frame.result.original; bytes = t } in r) (sym c.frame.ensures.bytes) in
    let frame = some_frame c.args.plan.body piece place c.in_ok-place.ensures ∙ ap (λ (r : Framed). r ∷ []) same in
    rw f (lends_front (plain_view c.self.inside) _ b piece fs (record { original = c.frame.result.original; bytes = c.frame.result.bytes.now } ∷ []) c.args.plan frame zero refl
    c.in-Ok.ensures.walk refl zero c.clear.ensures.items known c.if-piece-total.false c.in-Ok.ensures.ends
    (stands_inside c.self.inside c.args.self.now b fs c.self.view_is f stands))
