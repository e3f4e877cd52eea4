use Rattle.packet_key.proofs.Bytes.{IsOf-text_of, Lacks-text_of, IsAscii-text_of, length-text_of}
use Rattle.packet_key.proofs.laws.key_letters.Goals as goal

pub returns-clause-letters : goal.returns-clause-letters
returns-clause-letters c = IsOf-text_of

pub returns-clause-others : goal.returns-clause-others
returns-clause-others c k is byte other = Lacks-text_of byte other k is

pub returns-clause-ascii : goal.returns-clause-ascii
returns-clause-ascii c = IsAscii-text_of

pub returns-clause-some : goal.returns-clause-some
returns-clause-some c = length-text_of
