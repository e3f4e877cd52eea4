use Rattle.std.proofs.Common.{length}
use Rattle.pcapng_read.proofs.judge.interface.Goals as goal

pub returns-clause-wants : goal.returns-clause-wants
returns-clause-wants c = c.ethernet.ensures.decided (length c.args.bytes.now)
