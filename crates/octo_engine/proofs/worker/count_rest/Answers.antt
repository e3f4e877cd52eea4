use Rattle.std.proofs.Common.{◌≡◌, ◌≤◌, ◌+◌, ◌-◌, ◌*◌, subst, true, false, refl, arith, length}
use Rattle.octo_engine.specs.Counts.{HasCounted, HasMoved}
use Rattle.octo_engine.proofs.Stepping.{counted_then, keeps_counted, fit_moved, moved_then}
use Rattle.octo_engine.proofs.worker.count_rest.Goals as goal

pub loop-left-preserved : goal.loop-left-preserved
loop-left-preserved g c =
    let inv = c.loop-left.invariant in
    let some = c.in-Some.ensures.some in
    let done : c.args.count - c.loop-left.left + c.in-Some.some ≡ c.args.count - (c.loop-left.left - c.in-Some.some) = omega (arith, inv.0.0, some.1) in
    let moved = moved_then _ _ _ (c.args.count - c.loop-left.left) c.in-Some.some false inv.1 c.in-Some.ensures.moved in
    let before = inv.1.all refl in
    let updates = inv.1.same.updates in
    let room : c.loop-left.counter.sketch.counted + c.in-Some.some ≤ c.loop-left.counter.sketch.room = omega (arith, before, updates, c.requires.count, some.1, inv.0.0) in
    let rows = c.args.options.now.shape.rows in
    let on : c.count_packet.new.counter.sketch.counted ≡ c.loop-left.counter.sketch.counted + c.in-Some.some = c.in-Some.ensures.moved.all refl in
    let times : rows * (c.loop-left.place + 1) ≡ rows * c.loop-left.place + rows = grind arith in (
      (omega (arith, inv.0.0), omega (arith, inv.0.1), λ more. omega (arith, inv.0.2 (omega arith), on, times, c.in-Some.ensures.whole (omega (arith, more)))),
      subst (λ n. HasMoved c.args.counter.now c.count_packet.new.counter n false) done moved,
      fit_moved c.args.options.now (length c.args.packets.now) c.args.share.now c.loop-left.counter c.count_packet.new.counter c.in-Some.some false inv.2 c.in-Some.ensures.moved room,
      λ t w x has keeps.
          let h = inv.3 t w x has keeps in
          let k = c.in-Some.ensures.keeps t w h.now has h.keeps in
          subst (λ n. HasCounted g.K.Kind.stands t w x n false c.count_packet.new.counter) done (counted_then g.K.Kind.stands t w x (c.args.count - c.loop-left.left) c.in-Some.some false c.loop-left.counter c.count_packet.new.counter h k),
    )

pub returns-in-None-clause-keeps : goal.returns-in-None-clause-keeps
returns-in-None-clause-keeps g c = λ t w x has keeps.
    let inv = c.loop-left.invariant in
    let h = inv.3 t w x has keeps in
    let k = c.in-None.ensures.keeps t w h.now has h.keeps in
    let done : c.args.count - c.loop-left.left + c.loop-left.left ≡ c.args.count = omega (arith, inv.0.0) in
    let all = counted_then g.K.Kind.stands t w x (c.args.count - c.loop-left.left) c.loop-left.left true c.loop-left.counter c.count_packet.new.counter h k in
    keeps_counted g.K.Kind.stands t w x c.args.count true c.count_packet.new.counter (subst (λ n. HasCounted g.K.Kind.stands t w x n true c.count_packet.new.counter) done all)

pub returns-clause-keeps : goal.returns-clause-keeps
returns-clause-keeps g c = λ t w x has keeps.
    let inv = c.loop-left.invariant in
    let done : c.args.count - c.loop-left.left ≡ c.args.count = omega (arith, inv.0.0, c.loop-left-test.false) in
    keeps_counted g.K.Kind.stands t w x c.args.count false c.loop-left.counter (subst (λ n. HasCounted g.K.Kind.stands t w x n false c.loop-left.counter) done (inv.3 t w x has keeps))
