use Rattle.std.proofs.Common.{◌∙◌, arith}
use Rattle.journal_read.proofs.WordTexts.{amount_packets, amount_bytes}
use Rattle.journal_read.proofs.choices.amount_at.Goals as goal

pub returns-then-byte_at-eq112 : goal.returns-then-byte_at-eq112
returns-then-byte_at-eq112 c = λ e rest is.
    let read = amount_packets c.args.text.now (omega (arith, c.byte_at.ensures)) e rest is in
    (read.0, c.skip.ensures ∙ read.1)

pub returns : goal.returns
returns c = λ e rest is.
    let read = amount_bytes c.args.text.now (λ same. omega (arith, c.byte_at.ensures)) e rest is in
    (read.0, c.skip-2.ensures ∙ read.1)
