use Rattle.std.proofs.Common.{◌/◌, take}
use Rattle.heavy_keys.proofs.Sharing.{Sharing}
use Rattle.heavy_keys.proofs.distinct.shared_bits.Given as goal

abbrev pub invariant-loop-candidate : goal.invariant-loop-candidate
invariant-loop-candidate l = Sharing l.len (l.len / 8) (take l.candidate-index l.candidates) l.touched l.shared
