use Rattle.std.proofs.Common.{◌∙◌, sym, ap, length}
use Rattle.hash_rows.proofs.Words.{length-bits_in}
use Rattle.hash_rows.proofs.bits.Bits.len.Goals as goal

pub returns : goal.returns
returns c = sym (length-bits_in c.self.inside.words.items c.self.inside.len) ∙ ap length c.self.view_is
