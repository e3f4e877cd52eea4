use Rattle.std.proofs.Common.{◌∙◌, ap, arith, sym, length}
use Rattle.prefix_stack.proofs.Amounts.{packets_none, packets_step}
use Rattle.prefix_stack.proofs.packets.level_packets.Goals as goal

pub loop-packet-init : goal.loop-packet-init
loop-packet-init c = record {
  items = c.in_ok-level.ensures.empty ∙ sym (packets_none c.args.bits);
  few = omega (arith, ap length c.in_ok-level.ensures.empty);
  room = c.in_ok-level.ensures.room;
}

pub loop-packet-preserved : goal.loop-packet-preserved
loop-packet-preserved c =
    let before = c.loop-packet.invariant in
    record {
      items = packets_step c.args.bits c.args.packets.now c.loop-packet.packet-index _ _ _ c.loop-packet-test.true before.items c.add_packet.ensures.items;
      few = omega (arith, c.add_packet.ensures.few, before.few);
      room = c.add_packet.ensures.room ∙ before.room;
    }
