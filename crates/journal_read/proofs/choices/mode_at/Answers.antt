use Rattle.std.proofs.Common.{◌∙◌, arith}
use Rattle.journal_read.proofs.WordTexts.{mode_rounds, mode_threads}
use Rattle.journal_read.proofs.choices.mode_at.Goals as goal

pub returns-then-byte_at-eq114 : goal.returns-then-byte_at-eq114
returns-then-byte_at-eq114 c = λ e rest is.
    let read = mode_rounds c.args.text.now (omega (arith, c.byte_at.ensures)) e rest is in
    (read.0, c.skip.ensures ∙ read.1)

pub returns : goal.returns
returns c = λ e rest is.
    let read = mode_threads c.args.text.now (λ same. omega (arith, c.byte_at.ensures)) e rest is in
    (read.0, c.skip-2.ensures ∙ read.1)
