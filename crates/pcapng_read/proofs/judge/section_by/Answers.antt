use Rattle.std.proofs.Common.{length}
use Rattle.pcapng_read.proofs.judge.section_by.Goals as goal

pub returns-else-bytes-lt16-clause-wants : goal.returns-else-bytes-lt16-clause-wants
returns-else-bytes-lt16-clause-wants c = c.version.ensures.decided (length c.args.bytes.now)
