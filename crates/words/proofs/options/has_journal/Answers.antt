use Rattle.std.proofs.Common.{refl, codes}
use Rattle.words.specs.Grammar.{is_in}
use Rattle.words.proofs.Commands.{kept_flag}
use Rattle.words.proofs.options.has_journal.Goals as goal

pub returns : goal.returns
returns c = λ parts am. kept_flag (is_in (codes "journal") parts) _ c.get_flag.result (am.flags (codes "journal") refl) c.get_flag.ensures.none c.get_flag.ensures.value c.get_flag.ensures.other
