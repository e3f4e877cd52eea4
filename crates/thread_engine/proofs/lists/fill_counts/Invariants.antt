use Rattle.std.proofs.Common.{◌≡◌, take}
use Rattle.thread_engine.proofs.lists.fill_counts.Given as goal

abbrev pub invariant-loop-count : goal.invariant-loop-count
invariant-loop-count l = (l.into.items ≡ take l.count-index l.counts) × (l.into.room ≡ l.fn.into.room)
