use Rattle.std.proofs.Common.{◌≡◌, length, take}
use Rattle.octo_engine.proofs.settle.keys_of_heavy.Given as goal

abbrev pub invariant-loop-place : goal.invariant-loop-place
invariant-loop-place l = (l.keys.items ≡ take l.place l.heavy.keys) × (l.keys.room ≡ length l.heavy.keys)
