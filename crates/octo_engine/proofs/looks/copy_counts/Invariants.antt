use Rattle.std.proofs.Common.{◌≡◌, length, take}
use Rattle.octo_engine.proofs.looks.copy_counts.Given as goal

abbrev pub invariant-loop-count : goal.invariant-loop-count
invariant-loop-count l = (l.copy.items ≡ take l.count-index l.counts) × (l.copy.room ≡ length l.counts)
