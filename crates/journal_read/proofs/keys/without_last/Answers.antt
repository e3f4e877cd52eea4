use Rattle.std.proofs.Common.{arith}
use Rattle.journal_read.proofs.KeyTexts.{front_of}
use Rattle.journal_read.proofs.keys.without_last.Goals as goal

pub returns : goal.returns
returns c = λ front last is. front_of c.args.text.now front last _ is (omega arith)
