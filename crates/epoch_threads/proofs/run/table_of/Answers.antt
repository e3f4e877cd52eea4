use Rattle.epoch_run.specs.Epochs.{sketch_table}
use Rattle.epoch_threads.proofs.run.table_of.Goals as goal

pub returns : goal.returns
unfolding sketch_table
returns g c = c.in_ok-settled.ensures.table
