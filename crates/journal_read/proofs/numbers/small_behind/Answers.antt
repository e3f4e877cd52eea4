use Rattle.std.proofs.Common.{◌∙◌, arith}
use Rattle.journal_read.proofs.numbers.small_behind.Goals as goal

pub returns : goal.returns
returns c = λ n rest fits stop is.
    let read = c.number_behind-number.ensures n rest (omega (arith, fits)) stop is in
    (c.small.ensures (omega (arith, fits, read.0)) ∙ read.0, read.1)
