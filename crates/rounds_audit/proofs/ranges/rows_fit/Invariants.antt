use Rattle.std.proofs.Common.{◌<◌, ◌^◌, length, take}
use Rattle.std.specs.Prelude.{All}
use Rattle.rounds_audit.proofs.ranges.rows_fit.Given as goal

abbrev pub invariant-loop-bits : goal.invariant-loop-bits
invariant-loop-bits l = All (λ bits. length bits < 2 ^ 32) (take l.bits-index l.rows)
