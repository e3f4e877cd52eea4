use Rattle.std.proofs.Common.{◌≤◌, ℤ, List, map, take_all, length, subst, sym, ◌∙◌, arith, w64}
use Rattle.std.proofs.Math.Facts.{to_z-of_z}
use Rattle.packet_key.specs.declared.key.FlowKey.{FlowKey}
use Rattle.hash_rows.specs.declared.shape.Packet.{Packet}
use Rattle.hash_rows.specs.declared.shape.Flow.{Flow}
use Rattle.heavy_keys.specs.FinalHeavy.{AreHeaviest, IsFinalHeavy}
use Rattle.heavy_keys.proofs.ranks.final_heavy.Goals as goal

pub returns : goal.returns
returns g c =
    let estimate_of : FlowKey → ℤ = g.K.Kind.rules.estimate c.args.table.now.shape c.args.table.now.cells in
    let keys : List FlowKey = map (λ (p : Packet). p.key) c.args.packets.now in
    let exact = to_z-of_z {w = w64} {z = c.args.least} c.ranges.least in
    let h : AreHeaviest estimate_of c.args.least keys 4294967295 c.in_ok-count.field-0.count c.in_ok-count.field-0.flows.items =
    subst (λ z. AreHeaviest estimate_of z keys 4294967295 c.in_ok-count.field-0.count c.in_ok-count.field-0.flows.items) exact c.in_ok-count.ensures in
    let few : length h.all ≤ 4294967295 = omega (arith, h.number, c.if-count-from.false) in
    subst (λ (fs : List Flow). IsFinalHeavy estimate_of c.args.least keys fs) (sym (h.first ∙ take_all 4294967295 h.all few)) h.all_heavy
