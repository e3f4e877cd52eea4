use Rattle.std.proofs.Common.{◌∙◌, sym}
use Rattle.journal_read.proofs.KeyTexts.{line_of_text}
use Rattle.journal_read.proofs.keys.read_key.Goals as goal

pub returns-else-is_key-clause-text : goal.returns-else-is_key-clause-text
returns-else-is_key-clause-text c = λ k key is.
    c.is_key.ensures.no c.if-is_key.false (is ∙ sym (line_of_text c.args.name.now c.in_ok-key.key k (c.in_ok-key.ensures.text k key is)))
