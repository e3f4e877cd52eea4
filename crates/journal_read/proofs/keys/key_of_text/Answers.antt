use Rattle.std.proofs.Common.{sym, subst}
use Rattle.std.specs.Str.{IsUtf8}
use Rattle.std.proofs.lemmas.Str.{IsUtf8-from_ascii}
use Rattle.packet_key.specs.KeyText.{text_of}
use Rattle.journal_read.proofs.keys.key_of_text.Goals as goal

pub returns-in-Err-clause-text : goal.returns-in-Err-clause-text
returns-in-Err-clause-text c = λ k key is.
    c.in-Err.ensures.cases.0 (subst IsUtf8 (sym is) (IsUtf8-from_ascii (text_of k) (c.key_letters.ensures.ascii k key)))
