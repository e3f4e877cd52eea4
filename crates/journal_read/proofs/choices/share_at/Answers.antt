use Rattle.std.proofs.Common.{◌∙◌, arith}
use Rattle.journal_read.proofs.WordTexts.{share_turn, share_key}
use Rattle.journal_read.proofs.choices.share_at.Goals as goal

pub returns-then-byte_at-eq116 : goal.returns-then-byte_at-eq116
returns-then-byte_at-eq116 c = λ e rest is.
    let read = share_turn c.args.text.now (omega (arith, c.byte_at.ensures)) e rest is in
    (read.0, c.skip.ensures ∙ read.1)

pub returns : goal.returns
returns c = λ e rest is.
    let read = share_key c.args.text.now (λ same. omega (arith, c.byte_at.ensures)) e rest is in
    (read.0, c.skip-2.ensures ∙ read.1)
