use Rattle.std.proofs.Common.{take}
use Rattle.std.specs.Prelude.{All}
use Rattle.packet_key.specs.KeyText.{IsKey}
use Rattle.rounds_audit.proofs.ranges.keys_fit.Given as goal

abbrev pub invariant-loop-key : goal.invariant-loop-key
invariant-loop-key l = All (IsKey) (take l.key-index l.keys)
