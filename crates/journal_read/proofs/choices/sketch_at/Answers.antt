use Rattle.std.proofs.Common.{◌∙◌, arith}
use Rattle.journal_read.proofs.WordTexts.{sketch_loglog, sketch_min, sketch_count}
use Rattle.journal_read.proofs.choices.sketch_at.Goals as goal

pub returns-then-byte_at-eq108 : goal.returns-then-byte_at-eq108
returns-then-byte_at-eq108 c = λ e rest is.
    let read = sketch_loglog c.args.text.now (omega (arith, c.byte_at.ensures)) e rest is in
    (read.0, c.skip.ensures ∙ read.1)

pub returns-then-byte_at-eq109 : goal.returns-then-byte_at-eq109
returns-then-byte_at-eq109 c = λ e rest is.
    let read = sketch_min c.args.text.now (λ same. omega (arith, c.byte_at.ensures)) (omega (arith, c.byte_at-2.ensures)) e rest is in
    (read.0, c.skip-then-byte_at-eq109.ensures ∙ read.1)

pub returns : goal.returns
returns c = λ e rest is.
    let read = sketch_count c.args.text.now (λ same. omega (arith, c.byte_at.ensures)) (λ same. omega (arith, c.byte_at-2.ensures)) e rest is in
    (read.0, c.skip-2.ensures ∙ read.1)
