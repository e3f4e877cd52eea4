use Rattle.hash_rows.specs.OptionTexts.{full_text}
use Rattle.journal_read.proofs.WordTexts.{word_behind}
use Rattle.journal_read.proofs.choices.full_behind.Goals as goal

pub returns : goal.returns
returns c = word_behind full_text c.args.text.now c.args.words.now c.skip.result.now c.full_at.result.0 c.full_at.result.1.now c.skip.ensures c.full_at.ensures
