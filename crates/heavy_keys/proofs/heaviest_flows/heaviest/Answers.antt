use Rattle.std.proofs.Common.{ℤ, map, subst, w64}
use Rattle.std.proofs.Math.Facts.{to_z-of_z}
use Rattle.packet_key.specs.declared.key.FlowKey.{FlowKey}
use Rattle.hash_rows.specs.declared.shape.Packet.{Packet}
use Rattle.heavy_keys.specs.Candidates.{AreFound}
use Rattle.heavy_keys.proofs.HeaviestLemmas.{heaviest_from}
use Rattle.heavy_keys.proofs.BucketLemmas.{each_bucket}
use Rattle.heavy_keys.proofs.heaviest_flows.heaviest.Goals as goal

pub distinct_in_buckets-requires : goal.distinct_in_buckets-requires
distinct_in_buckets-requires g c =
    let found = c.in_ok-buckets.ensures in
    each_bucket c.args.packets.now found.candidates c.in_ok-buckets.field-0.buckets.lists.items found.buckets found.each

pub returns : goal.returns
returns g c =
    let estimate_of : FlowKey → ℤ = g.E.Estimates.estimate_of c.args.estimates.now in
    let exact = to_z-of_z {w = w64} {z = c.args.least} c.ranges.least in
    let found = subst (λ z. AreFound estimate_of z c.args.most c.args.packets.now (map (λ (p : Packet). p.key) c.args.packets.now) c.in_ok-buckets.field-0.buckets.lists.items c.in_ok-buckets.field-0.top.keys) exact
    c.in_ok-buckets.ensures in
    heaviest_from estimate_of c.args.least c.args.most c.args.packets.now c.in_ok-buckets.field-0.buckets.lists.items c.in_ok-buckets.field-0.top.keys c.in_ok-count.count c.in_ok-flows.flows.items
    found c.in_ok-count.ensures c.in_ok-flows.ensures
