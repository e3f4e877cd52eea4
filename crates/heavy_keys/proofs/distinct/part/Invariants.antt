use Rattle.std.proofs.Common.{◌≤◌, take}
use Rattle.heavy_keys.proofs.Parting.{AreParted}
use Rattle.heavy_keys.proofs.distinct.part.Given as goal

abbrev pub invariant-loop-candidate : goal.invariant-loop-candidate
invariant-loop-candidate l = (l.lone ≤ l.candidate-index) × AreParted l.shared (take l.candidate-index l.candidates) l.lone l.rest.items
