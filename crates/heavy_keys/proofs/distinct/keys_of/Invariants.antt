use Rattle.std.proofs.Common.{◌≡◌, map, take}
use Rattle.heavy_keys.specs.Candidates.{candidate_key}
use Rattle.heavy_keys.proofs.distinct.keys_of.Given as goal

abbrev pub invariant-loop-candidate : goal.invariant-loop-candidate
invariant-loop-candidate l = l.keys.items ≡ map (candidate_key l.packets) (take l.candidate-index l.candidates)
