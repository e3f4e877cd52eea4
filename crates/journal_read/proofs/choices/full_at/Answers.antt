use Rattle.std.proofs.Common.{◌∙◌, arith}
use Rattle.journal_read.proofs.WordTexts.{full_leave, full_wait}
use Rattle.journal_read.proofs.choices.full_at.Goals as goal

pub returns-then-byte_at-eq108 : goal.returns-then-byte_at-eq108
returns-then-byte_at-eq108 c = λ e rest is.
    let read = full_leave c.args.text.now (omega (arith, c.byte_at.ensures)) e rest is in
    (read.0, c.skip.ensures ∙ read.1)

pub returns : goal.returns
returns c = λ e rest is.
    let read = full_wait c.args.text.now (λ same. omega (arith, c.byte_at.ensures)) e rest is in
    (read.0, c.skip-2.ensures ∙ read.1)
