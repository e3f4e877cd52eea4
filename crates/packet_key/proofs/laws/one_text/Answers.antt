use Rattle.packet_key.proofs.OneText.{one_key}
use Rattle.packet_key.proofs.laws.one_text.Goals as goal

pub returns : goal.returns
returns c = one_key
