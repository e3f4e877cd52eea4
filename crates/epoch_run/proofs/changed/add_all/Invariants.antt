use Rattle.std.proofs.Common.{◌≡◌, ◌++◌, take}
use Rattle.epoch_run.proofs.changed.add_all.Given as goal

abbrev pub invariant-loop-packet : goal.invariant-loop-packet
invariant-loop-packet l = record {
  items : l.packets.items ≡ l.initial.packets.items ++ take l.packet-index l.more;
  room : l.packets.room ≡ l.initial.packets.room;
}
