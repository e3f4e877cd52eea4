use Rattle.journal_read.proofs.KeyTexts.{behind_name, same_text}
use Rattle.packet_key.specs.KeyText.{text_of}
use Rattle.journal_read.proofs.keys.key_in.Goals as goal

pub returns-clause-text : goal.returns-clause-text
returns-clause-text c = λ k key is.
    same_text c.key_of_text.result c.without_last.result.now k key
    (c.without_last.ensures (text_of k) 10 (behind_name c.args.line.now c.args.name.now c.skip.result.now k c.skip.ensures is))
    c.key_of_text.ensures.text
