use Rattle.std.proofs.Common.{◌≡◌, length, take}
use Rattle.octo_engine.proofs.looks.copy_keys.Given as goal

abbrev pub invariant-loop-key : goal.invariant-loop-key
invariant-loop-key l = (l.copy.items ≡ take l.key-index l.keys.items) × (l.copy.room ≡ length l.keys.items)
