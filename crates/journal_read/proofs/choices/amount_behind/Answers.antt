use Rattle.hash_rows.specs.OptionTexts.{amount_text}
use Rattle.journal_read.proofs.WordTexts.{word_behind}
use Rattle.journal_read.proofs.choices.amount_behind.Goals as goal

pub returns : goal.returns
returns c = word_behind amount_text c.args.text.now c.args.words.now c.skip.result.now c.amount_at.result.0 c.amount_at.result.1.now c.skip.ensures c.amount_at.ensures
