use Rattle.std.proofs.Common.{◌≡◌, ◌≤◌, length}
use Rattle.heavy_keys.specs.Candidates.{AreFoundUpTo}
use Rattle.heavy_keys.proofs.candidates.Found.sample.Given as goal

abbrev pub invariant-loop-step : goal.invariant-loop-step
invariant-loop-step g l = (l.self.cache ≡ l.fn.self.cache) × (length l.self.top.keys ≤ l.most)
    × (AreFoundUpTo (g.E.Estimates.estimate_of l.estimates) l.least l.most l.packets 0 l.fn.self.buckets.lists.items l.fn.self.top.keys
    → AreFoundUpTo (g.E.Estimates.estimate_of l.estimates) l.least l.most l.packets 0 l.self.buckets.lists.items l.self.top.keys)
