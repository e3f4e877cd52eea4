use Rattle.std.proofs.Common.{ap, ◌∙◌}
use Rattle.pcapng_read.specs.View.{NgReaderView}
use Rattle.pcapng_read.proofs.Views.{forgotten, stands_forgotten}
use Rattle.pcapng_read.proofs.Exact.{refused_exactly}
use Rattle.pcapng_read.proofs.reader.NgReader.take.Goals as goal

pub returns-clause-takes : goal.returns-clause-takes
returns-clause-takes c = λ b fs stands.
    (rw c.forget.ensures at c.take_blocks.ensures.takes) b fs (stands_forgotten c.args.self.now b fs stands)

pub returns-clause-exact : goal.returns-clause-exact
returns-clause-exact c = λ b fs bad stands refused.
    refused_exactly (forgotten c.args.self.now) c.forget.new.self c.take_blocks.new.self c.args.piece.now c.take_blocks.result
    (rw c.forget.ensures at c.take_blocks.ensures.takes) (c.take_blocks.ensures.limit ∙ ap (λ (p : NgReaderView). p.limit) c.forget.ensures) c.take_blocks.ensures.on
    b fs bad (stands_forgotten c.args.self.now b fs stands) refused
