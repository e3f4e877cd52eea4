use Rattle.std.proofs.Common.{◌≡◌, ◌≤◌, length, take}
use Rattle.prefix_report.specs.PrefixText.{of_length}
use Rattle.prefix_report.proofs.networks.count_of.Given as goal

abbrev pub invariant-loop-hit : goal.invariant-loop-hit
invariant-loop-hit l = (l.count ≡ length (of_length l.bits (take l.hit-index l.hits))) × (l.count ≤ l.hit-index)
