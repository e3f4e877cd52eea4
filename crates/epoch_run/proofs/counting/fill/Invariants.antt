use Rattle.std.proofs.Common.{◌≡◌, take}
use Rattle.epoch_run.specs.Epochs.{sketch_table}
use Rattle.epoch_run.specs.Places.{HaveUsed}
use Rattle.epoch_run.proofs.counting.fill.Given as goal

abbrev pub invariant-loop-packet : goal.invariant-loop-packet
invariant-loop-packet l = record {
  table : l.table ≡ sketch_table l.initial.table.shape (take l.packet-index l.packets);
  used : HaveUsed l.table l.used.items;
}
