use Rattle.std.proofs.Common.{◌≤◌, ◌-◌, length}
use Rattle.capture_tests.proofs.blocks.read_all.Given as goal

abbrev pub invariant-loop-at : goal.invariant-loop-at
invariant-loop-at l = l.at ≤ length l.chunk

abbrev pub decreases-loop-at : goal.decreases-loop-at
decreases-loop-at l = length l.chunk - l.at
