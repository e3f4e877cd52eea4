use Rattle.hash_rows.specs.OptionTexts.{share_text}
use Rattle.journal_read.proofs.WordTexts.{word_behind}
use Rattle.journal_read.proofs.choices.share_behind.Goals as goal

pub returns : goal.returns
returns c = word_behind share_text c.args.text.now c.args.words.now c.skip.result.now c.share_at.result.0 c.share_at.result.1.now c.skip.ensures c.share_at.ensures
