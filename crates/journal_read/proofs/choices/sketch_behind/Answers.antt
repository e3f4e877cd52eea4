use Rattle.hash_rows.specs.OptionTexts.{sketch_text}
use Rattle.journal_read.proofs.WordTexts.{word_behind}
use Rattle.journal_read.proofs.choices.sketch_behind.Goals as goal

pub returns : goal.returns
returns c = word_behind sketch_text c.args.text.now c.args.words.now c.skip.result.now c.sketch_at.result.0 c.sketch_at.result.1.now c.skip.ensures c.sketch_at.ensures
