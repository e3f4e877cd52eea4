use Rattle.hash_rows.specs.OptionTexts.{mode_text}
use Rattle.journal_read.proofs.WordTexts.{word_behind}
use Rattle.journal_read.proofs.choices.mode_behind.Goals as goal

pub returns : goal.returns
returns c = word_behind mode_text c.args.text.now c.args.words.now c.skip.result.now c.mode_at.result.0 c.mode_at.result.1.now c.skip.ensures c.mode_at.ensures
