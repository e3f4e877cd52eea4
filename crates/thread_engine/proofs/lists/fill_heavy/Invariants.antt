use Rattle.std.proofs.Common.{◌≡◌, take}
use Rattle.thread_engine.proofs.lists.fill_heavy.Given as goal

abbrev pub invariant-loop-place : goal.invariant-loop-place
invariant-loop-place l = (l.into.items ≡ take l.place l.heavy.keys) × (l.into.room ≡ l.fn.into.room)
