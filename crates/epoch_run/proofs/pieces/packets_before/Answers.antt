use Rattle.epoch_run.proofs.Splitting.{earlier}
use Rattle.epoch_run.proofs.pieces.packets_before.Goals as goal

pub packets_of-requires-clause-number : goal.packets_of-requires-clause-number
packets_of-requires-clause-number c = earlier c.args.size c.args.number c.args.packets.now c.requires.number
