use Rattle.std.proofs.Common.{sym}
use Rattle.shares.proofs.Turns.{many_turns}
use Rattle.shares.proofs.positions.Positions.len.Goals as goal

pub returns-in-Turns : goal.returns-in-Turns
returns-in-Turns c = sym (many_turns c.self.inside.form c.args.self.now c.in-Turns.first c.in-Turns.step c.in-Turns.count c.self.view_is c.in-Turns.is)
