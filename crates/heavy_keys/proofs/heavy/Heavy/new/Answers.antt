use Rattle.heavy_keys.proofs.LiveLemmas.{holds_none}
use Rattle.std.proofs.Common.{ap, refl}
use Rattle.std.specs.Map.{keys_of}
use Rattle.heavy_keys.proofs.heavy.Heavy.new.Goals as goal

pub returns-in-Ok-clause-live : goal.returns-in-Ok-clause-live
returns-in-Ok-clause-live c = holds_none _ (ap keys_of c.in-Ok.ensures.empty) refl
