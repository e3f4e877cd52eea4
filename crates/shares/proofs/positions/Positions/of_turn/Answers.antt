use Rattle.std.proofs.Common.{sym}
use Rattle.shares.proofs.Turns.{turns_are}
use Rattle.shares.proofs.positions.Positions.of_turn.Goals as goal

pub returns : goal.returns
returns c = sym (turns_are c.args.workers c.args.worker c.requires.worker c.args.packets)
