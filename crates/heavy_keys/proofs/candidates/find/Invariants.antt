use Rattle.std.proofs.Common.{◌≡◌, ◌≤◌, length}
use Rattle.heavy_keys.specs.Candidates.{AreFoundUpTo}
use Rattle.heavy_keys.proofs.candidates.find.Given as goal

abbrev pub invariant-loop-at : goal.invariant-loop-at
invariant-loop-at g l = (length l.found.cache.items ≡ 16384) × (length l.found.top.keys ≤ l.most)
    × AreFoundUpTo (g.E.Estimates.estimate_of l.estimates) l.least l.most l.packets l.at l.found.buckets.lists.items l.found.top.keys
