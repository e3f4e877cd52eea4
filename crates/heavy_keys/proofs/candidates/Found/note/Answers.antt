use Rattle.std.proofs.Common.{ℤ, ◌+◌, OnOk, subst, w64}
use Rattle.std.proofs.Math.Facts.{to_z-of_z}
use Rattle.std.proofs.lemmas.Result.{on_ok_weaker}
use Rattle.packet_key.specs.declared.key.FlowKey.{FlowKey}
use Rattle.heavy_keys.specs.Candidates.{AreFoundUpTo}
use Rattle.heavy_keys.proofs.FoundLemmas.{next_found, next_seen}
use Rattle.heavy_keys.proofs.candidates.Found.note.Goals as goal

pub returns-then-is_cached-clause-found : goal.returns-then-is_cached-clause-found
returns-then-is_cached-clause-found g c =
    next_seen _ _ c.args.most c.args.packets.now c.args.at c.args.self.now.buckets.lists.items c.args.self.now.top.keys c.requires.place (c.is_cached.ensures.known c.if-is_cached.true)

pub returns-clause-found : goal.returns-clause-found
returns-clause-found g c =
    let estimate_of : FlowKey → ℤ = g.E.Estimates.estimate_of c.args.estimates.now in
    let exact = to_z-of_z {w = w64} {z = c.args.least} c.ranges.least in
    subst (λ z. OnOk c.weigh.result (AreFoundUpTo estimate_of z c.args.most c.args.packets.now c.args.at c.args.self.now.buckets.lists.items c.args.self.now.top.keys
    → AreFoundUpTo estimate_of z c.args.most c.args.packets.now (c.args.at + 1) c.weigh.new.self.buckets.lists.items c.weigh.new.self.top.keys)) exact
    (on_ok_weaker c.weigh.result (λ step.
    next_found _ _ c.args.most c.args.packets.now c.args.at c.args.self.now.buckets.lists.items c.args.self.now.top.keys c.requires.place c.weigh.new.self.buckets.lists.items c.weigh.new.self.top.keys step)
    c.weigh.ensures.found)
