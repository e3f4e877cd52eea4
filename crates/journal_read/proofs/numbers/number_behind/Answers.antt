use Rattle.journal_read.proofs.NumberTexts.{number_behind}
use Rattle.journal_read.proofs.numbers.number_behind.Goals as goal

pub returns : goal.returns
returns c = λ n rest fits stop is.
    number_behind c.args.text.now c.args.words.now c.skip.result.now c.number_at.result.0 c.number_at.result.1.now n rest c.skip.ensures c.number_at.ensures.number c.number_at.ensures.rest fits stop is
