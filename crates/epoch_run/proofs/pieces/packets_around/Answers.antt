use Rattle.epoch_run.proofs.Splitting.{around_is}
use Rattle.epoch_run.proofs.pieces.packets_around.Goals as goal

pub returns : goal.returns
returns c = around_is c.args.size c.args.number c.end_after.result c.args.packets.now c.requires.later c.requires.number c.end_after.ensures.place
