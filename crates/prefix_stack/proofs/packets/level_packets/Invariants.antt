use Rattle.std.proofs.Common.{◌≡◌, ◌≤◌, length, take}
use Rattle.prefix_stack.specs.Levels.{level_packets}
use Rattle.prefix_stack.proofs.packets.level_packets.Given as goal

abbrev pub invariant-loop-packet : goal.invariant-loop-packet
invariant-loop-packet l = record {
  items : l.level.items ≡ level_packets l.bits (take l.packet-index l.packets);
  few : length l.level.items ≤ l.packet-index;
  room : l.level.room ≡ length l.packets;
}
