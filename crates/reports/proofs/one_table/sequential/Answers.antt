use Rattle.std.proofs.Common.{◌∙◌, sym, ap, List}
use Rattle.std.proofs.lemmas.List.{take_all, take_more}
use Rattle.packet_key.specs.declared.key.FlowKey.TheVariants.{V4}
use Rattle.hash_rows.specs.declared.shape.Packet.{Packet}
use Rattle.hash_rows.specs.Sequential.{sequential_table}
use Rattle.reports.proofs.Adding.{nothing_added}
use Rattle.reports.proofs.one_table.sequential.Goals as goal

pub loop-packet-init : goal.loop-packet-init
loop-packet-init g c = nothing_added g.K.Kind.rules c.args.shape c.in_ok-table.table c.in_ok-table.ensures.shape c.in_ok-table.ensures.zeros

pub loop-packet-preserved : goal.loop-packet-preserved
loop-packet-preserved g c =
    let more = take_more c.args.packets.now c.loop-packet.packet-index (record { key = V4 0 0 0 0 0; amount = 0 }) c.loop-packet-test.true in
    c.add_packet.ensures c.args.shape _ c.loop-packet.invariant ∙ ap (λ (ps : List Packet). sequential_table g.K.Kind.rules c.args.shape ps) (sym more)

pub returns : goal.returns
returns g c =
    let all = take_all c.loop-packet.packet-index c.args.packets.now c.loop-packet-test.false in
    c.loop-packet.invariant ∙ ap (λ (ps : List Packet). sequential_table g.K.Kind.rules c.args.shape ps) all
