use Rattle.std.proofs.Common.{◌<◌, ◌^◌, take}
use Rattle.std.specs.Prelude.{All}
use lib.Signed.{mag}
use Rattle.rounds_audit.proofs.ranges.estimates_fit.Given as goal

abbrev pub invariant-loop-estimate : goal.invariant-loop-estimate
invariant-loop-estimate l = All (λ x. mag x < 2 ^ 63) (take l.estimate-index l.shown)
