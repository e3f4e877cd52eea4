use Rattle.std.proofs.Common.{◌≡◌, map, sum_by, take}
use Rattle.std.specs.Global.{Vec}
use Rattle.std.specs.Set.{distinct_count}
use Rattle.push_history.specs.LiveHeavy.{same_key}
use Rattle.heavy_keys.specs.Candidates.{candidate_key}
use Rattle.heavy_keys.specs.declared.candidates.Candidate.{Candidate}
use Rattle.heavy_keys.proofs.distinct.distinct_in_buckets.Given as goal

abbrev pub invariant-loop-list : goal.invariant-loop-list
invariant-loop-list l = l.total ≡ sum_by (λ (list : Vec Candidate). distinct_count same_key (map (candidate_key l.packets) list.items)) (take l.list-index l.buckets.lists.items)
