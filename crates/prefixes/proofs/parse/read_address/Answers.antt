use Rattle.prefixes.proofs.Texts.{parsed_address}
use Rattle.prefixes.proofs.parse.read_address.Goals as goal

pub returns : goal.returns
returns c address spelled = let read = parsed_address _ address _ c.parse.ensures.value spelled in cc
