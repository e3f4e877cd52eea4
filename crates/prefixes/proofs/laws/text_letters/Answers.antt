use Rattle.prefixes.proofs.Texts.{IsOf-prefix_text, Lacks-prefix_text, IsAscii-prefix_text, length-prefix_text}
use Rattle.prefixes.proofs.laws.text_letters.Goals as goal

pub returns-clause-letters : goal.returns-clause-letters
returns-clause-letters c = IsOf-prefix_text

pub returns-clause-others : goal.returns-clause-others
returns-clause-others c p is byte other = Lacks-prefix_text byte other p is

pub returns-clause-ascii : goal.returns-clause-ascii
returns-clause-ascii c = IsAscii-prefix_text

pub returns-clause-some : goal.returns-clause-some
returns-clause-some c = length-prefix_text
