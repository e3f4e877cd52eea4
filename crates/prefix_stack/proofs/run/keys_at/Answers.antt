use Rattle.std.proofs.Common.{◌∙◌, ap, arith, sym, length}
use Rattle.prefix_stack.proofs.Watching.{watched_none, watched_step}
use Rattle.prefix_stack.proofs.run.keys_at.Goals as goal

pub loop-prefix-init : goal.loop-prefix-init
loop-prefix-init c = record {
  items = c.in_ok-keys.ensures.empty ∙ sym (watched_none c.args.bits);
  few = omega (arith, ap length c.in_ok-keys.ensures.empty);
  room = c.in_ok-keys.ensures.room;
}

pub loop-prefix-preserved : goal.loop-prefix-preserved
loop-prefix-preserved c =
    let before = c.loop-prefix.invariant in
    record {
      items = watched_step c.args.bits c.args.watch.now c.loop-prefix.prefix-index _ _ _ c.loop-prefix-test.true before.items c.add_key.ensures.items;
      few = omega (arith, c.add_key.ensures.few, before.few);
      room = c.add_key.ensures.room ∙ before.room;
    }
