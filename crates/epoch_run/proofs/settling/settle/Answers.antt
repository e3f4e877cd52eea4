use Rattle.std.proofs.Common.{arith, ap, length}
use Rattle.epoch_run.proofs.Tables.{epoch_few}
use Rattle.epoch_run.proofs.settling.settle.Goals as goal

pub epoch_of-requires-clause-few : goal.epoch_of-requires-clause-few
epoch_of-requires-clause-few c =
    omega (arith, ap length c.packets_of-here.ensures, epoch_few c.args.size c.args.packets.now c.args.number, c.requires.size)
