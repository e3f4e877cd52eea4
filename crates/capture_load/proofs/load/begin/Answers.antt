use Rattle.std.proofs.Common.{refl}
use Rattle.capture_load.specs.Packets.{packets_of, tallies_of}
use Rattle.capture_load.proofs.load.begin.Goals as goal

pub returns-in-Ok-clause-loads : goal.returns-in-Ok-clause-loads
unfolding packets_of tallies_of
returns-in-Ok-clause-loads c = record {
  stands = (refl, refl);
  keeps = record { packets = c.in-Ok.ensures.empty; skipped = refl };
}
