use Rattle.std.proofs.Common.{◌≡◌}
use Rattle.epoch_run.specs.Epochs.{AreEpochs, epoch_count, sketch_table}
use Rattle.epoch_run.specs.Places.{packets_before}
use Rattle.epoch_threads.proofs.run.epochs_threads.Given as goal

abbrev pub invariant-loop-number : goal.invariant-loop-number
invariant-loop-number g l = record {
  epochs : AreEpochs l.size l.change l.options l.packets l.number l.epochs.items;
  room : l.epochs.room ≡ epoch_count l.size l.packets;
  old : l.old ≡ sketch_table l.options.shape (packets_before l.size l.packets l.number);
}
