use Rattle.std.proofs.Common.{rules, ◌≡◌, ◌<◌, ◌+◌, ◌*◌, length, arith}
use Rattle.thread_work.proofs.Rows.{same_self, same_then, told_none, told_packet}
use Rattle.thread_work.proofs.worker.work.Goals as goal

pub loop-place-init : goal.loop-place-init
loop-place-init g c = record {
  idle = c.requires.fresh.1;
  counted = omega (arith, c.requires.fresh.0.all_counted);
  same = same_self _;
  lane = c.requires.lane;
  few = search rules;
  told = told_none g.K.Kind.stands g.K.Kind.rules _ _ _ _ _ c.args.shape.now c.args.packets.now c.requires.fresh.0 c.requires.empty.0 c.requires.empty.1;
}

pub loop-place-preserved : goal.loop-place-preserved
loop-place-preserved g c =
    let h = c.loop-place.invariant in
    let e = c.tell_packet.ensures in
    let times : c.args.shape.now.rows * (c.loop-place.place + 1) ≡ c.args.shape.now.rows * c.loop-place.place + c.args.shape.now.rows = grind arith in
    let below : c.loop-place.place < length c.args.share.now = search rules in
    record {
      idle = e.idle;
      counted = omega (arith, e.counted, h.counted, times);
      same = same_then _ _ _ h.same e.same;
      lane = e.lane;
      few = e.few;
      told = told_packet g.K.Kind.stands g.K.Kind.rules _ _ _ _ _ c.args.shape.now c.args.packets.now c.args.share.now c.loop-place.place _ below c.at-position.ensures (e.told _ h.told);
    }
