use Rattle.std.proofs.Common.{ℤ, ◌∙◌, ap, length, map, subst, w64}
use Rattle.std.proofs.Math.Facts.{to_z-of_z}
use Rattle.packet_key.specs.declared.key.FlowKey.{FlowKey}
use Rattle.hash_rows.specs.declared.shape.Packet.{Packet}
use Rattle.heavy_keys.specs.Candidates.{AreFound}
use Rattle.heavy_keys.proofs.FoundLemmas.{found_all, found_none}
use Rattle.heavy_keys.proofs.candidates.find.Goals as goal

pub loop-at-init : goal.loop-at-init
loop-at-init g c = (
  ap (λ s. length s.items) c.in_ok-sample.ensures.cache ∙ ap length c.in_ok-filled.ensures.items,
  c.in_ok-sample.ensures.few,
  c.in_ok-sample.ensures.found (found_none _ _ c.args.most c.args.packets.now c.in_ok-new.field-0.lists.items c.new-2.result.keys c.in_ok-new.ensures c.new-2.ensures.empty),
)

pub returns : goal.returns
returns g c =
    let estimate_of : FlowKey → ℤ = g.E.Estimates.estimate_of c.args.estimates.now in
    let exact = to_z-of_z {w = w64} {z = c.args.least} c.ranges.least in
    subst (λ z. AreFound estimate_of z c.args.most c.args.packets.now (map (λ (p : Packet). p.key) c.args.packets.now) c.loop-at.found.buckets.lists.items c.loop-at.found.top.keys) exact
    (found_all _ _ c.args.most c.args.packets.now c.loop-at.at c.loop-at.found.buckets.lists.items c.loop-at.found.top.keys c.loop-at-test.false c.loop-at.invariant.2)
