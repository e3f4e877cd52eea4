use Rattle.std.proofs.Common.{◌≡◌, ℕ, ◌<◌, [], length, get_or}
use Rattle.std.specs.Global.{Vec}
use Rattle.heavy_keys.specs.declared.candidates.Candidate.{Candidate}
use Rattle.heavy_keys.proofs.buckets.Buckets.new.Given as goal

abbrev pub invariant-loop : goal.invariant-loop
invariant-loop l = (length l.lists.items ≡ l.counter) × ((bucket : ℕ) (none : Vec Candidate) → bucket < l.counter → (get_or l.lists.items bucket none).items ≡ [])
