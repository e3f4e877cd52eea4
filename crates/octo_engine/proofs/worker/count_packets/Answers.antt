use Rattle.std.proofs.Common.{rules, ◌≡◌, ◌≤◌, ◌+◌, ◌-◌, ◌*◌, ℕ, subst, true, false, refl, arith, length}
use Rattle.octo_engine.specs.Counts.{HasCounted, HasMoved}
use Rattle.octo_engine.proofs.Stepping.{counted_ends, counted_then, fit_moved, moved_ends, moved_then}
use Rattle.octo_engine.proofs.Places.{ahead_there, whole_packet}
use Rattle.octo_engine.proofs.worker.count_packets.Goals as goal

pub count_packet-requires-clause-count : goal.count_packet-requires-clause-count
count_packet-requires-clause-count g c κs within =
    let rows = c.args.options.now.shape.rows in
    let room : rows * c.args.place + rows * c.args.many ≤ rows * length c.args.share.now = omega (arith, c.requires.count, c.requires.next, c.requires.fit.updates) in
    let there = ahead_there rows c.args.place c.loop-ahead.ahead c.args.many (length c.args.share.now) c.loop-ahead-test.true room in
    subst (λ (n : ℕ). (1 ≤ n) × (c.loop-ahead.counter.sketch.counted + n ≤ c.loop-ahead.counter.sketch.room)) (search rules)
    (c.requires.shape.some_rows, omega (arith, there.0, c.loop-ahead.invariant.2, c.loop-ahead.invariant.1.updates))

pub loop-ahead-preserved : goal.loop-ahead-preserved
loop-ahead-preserved g c =
    let rows = c.args.options.now.shape.rows in
    let inv = c.loop-ahead.invariant in
    let some = c.in-Some.ensures.some in
    let same : c.args.shape.now.rows ≡ rows = search rules in
    let all : c.in-Some.field-0 ≡ rows = whole_packet _ _ (omega (arith, some.1, same)) (λ less. c.in-Some.ensures.whole (omega (arith, less, same))) in
    let room : rows * c.args.place + rows * c.args.many ≤ rows * length c.args.share.now = omega (arith, c.requires.count, c.requires.next, c.requires.fit.updates) in
    let there = ahead_there rows c.args.place c.loop-ahead.ahead c.args.many (length c.args.share.now) c.loop-ahead-test.true room in
    let more : rows * c.loop-ahead.ahead + rows ≡ rows * (c.loop-ahead.ahead + 1) = grind arith in
    let moved_one = subst (λ (n : ℕ). HasMoved c.loop-ahead.counter c.count_packet.new.counter n false) all c.in-Some.ensures.moved in
    let on : c.count_packet.new.counter.sketch.counted ≡ c.loop-ahead.counter.sketch.counted + rows = moved_one.all refl in
    let next : rows * (c.args.place + (c.loop-ahead.ahead + 1)) ≡ rows * (c.args.place + c.loop-ahead.ahead) + rows = grind arith in
    let fits : c.loop-ahead.counter.sketch.counted + rows ≤ c.loop-ahead.counter.sketch.room = omega (arith, there.0, inv.2, inv.1.updates) in (
      subst (λ (n : ℕ). HasMoved c.args.counter.now c.count_packet.new.counter n false) more (moved_then _ _ _ (rows * c.loop-ahead.ahead) rows false inv.0 moved_one),
      fit_moved c.args.options.now (length c.args.packets.now) c.args.share.now c.loop-ahead.counter c.count_packet.new.counter rows false inv.1 moved_one fits,
      omega (arith, on, inv.2, next),
      λ t w x has keeps.
          let h = inv.3 t w x has keeps in
          let k = subst (λ (n : ℕ). HasCounted g.K.Kind.stands t w h.now n false c.count_packet.new.counter) all (c.in-Some.ensures.keeps t w h.now has h.keeps) in
          subst (λ (n : ℕ). HasCounted g.K.Kind.stands t w x n false c.count_packet.new.counter) more
          (counted_then g.K.Kind.stands t w x (rows * c.loop-ahead.ahead) rows false c.loop-ahead.counter c.count_packet.new.counter h k),
    )

pub returns-in-None-clause-keeps : goal.returns-in-None-clause-keeps
returns-in-None-clause-keeps g c = λ t w x has keeps.
    let rows = c.args.options.now.shape.rows in
    let h = c.loop-ahead.invariant.3 t w x has keeps in
    let room : rows * c.args.place + rows * c.args.many ≤ rows * length c.args.share.now = omega (arith, c.requires.count, c.requires.next, c.requires.fit.updates) in
    let there = ahead_there rows c.args.place c.loop-ahead.ahead c.args.many (length c.args.share.now) c.loop-ahead-test.true room in
    let same : c.args.shape.now.rows ≡ rows = search rules in
    let k = subst (λ (n : ℕ). HasCounted g.K.Kind.stands t w h.now n true c.count_packet.new.counter) same (c.in-None.ensures.keeps t w h.now has h.keeps) in
    counted_ends g.K.Kind.stands t w x (rows * c.loop-ahead.ahead + rows) (rows * c.args.many) c.count_packet.new.counter there.1
    (counted_then g.K.Kind.stands t w x (rows * c.loop-ahead.ahead) rows true c.loop-ahead.counter c.count_packet.new.counter h k)

pub returns-in-None-clause-moved : goal.returns-in-None-clause-moved
returns-in-None-clause-moved g c =
    let rows = c.args.options.now.shape.rows in
    let room : rows * c.args.place + rows * c.args.many ≤ rows * length c.args.share.now = omega (arith, c.requires.count, c.requires.next, c.requires.fit.updates) in
    let there = ahead_there rows c.args.place c.loop-ahead.ahead c.args.many (length c.args.share.now) c.loop-ahead-test.true room in
    let same : c.args.shape.now.rows ≡ rows = search rules in
    let k = subst (λ (n : ℕ). HasMoved c.loop-ahead.counter c.count_packet.new.counter n true) same c.in-None.ensures.moved in
    moved_ends _ _ (rows * c.loop-ahead.ahead + rows) (rows * c.args.many) there.1 (moved_then _ _ _ (rows * c.loop-ahead.ahead) rows true c.loop-ahead.invariant.0 k)

pub returns-clause-keeps : goal.returns-clause-keeps
returns-clause-keeps g c = λ t w x has keeps.
    let done : c.loop-ahead.ahead ≡ c.args.many = omega (arith, c.loop-ahead-test.false, c.loop-ahead.auto.ahead-end) in
    subst (λ (n : ℕ). HasCounted g.K.Kind.stands t w x (c.args.options.now.shape.rows * n) false c.loop-ahead.counter) done (c.loop-ahead.invariant.3 t w x has keeps)
