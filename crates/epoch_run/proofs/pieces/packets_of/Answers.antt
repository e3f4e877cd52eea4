use Rattle.epoch_run.proofs.Splitting.{here_is}
use Rattle.epoch_run.proofs.pieces.packets_of.Goals as goal

pub returns : goal.returns
returns c = here_is c.args.size c.args.number c.end_after.result c.args.packets.now c.requires.number c.end_after.ensures.place
