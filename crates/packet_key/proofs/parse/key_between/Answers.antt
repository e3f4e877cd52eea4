use Rattle.std.proofs.Common.{◌∙◌, Some, sym, ap}
use Rattle.std.specs.Net.Addr.{ipv4_bits, ipv6_octets}
use Rattle.packet_key.proofs.Sockets.{between_v4, between_v6}
use Rattle.packet_key.proofs.parse.key_between.Goals as goal

pub returns-in-V4-V4 : goal.returns-in-V4-V4
returns-in-V4-V4 c k is from to same =
    ap Some (between_v4 k is c.in-V4-V4.source c.in-V4-V4.destination _ _ _ _ _
    (c.to_bits.ensures ∙ ap ipv4_bits c.ip.ensures) (c.to_bits-in-V4-V4.ensures ∙ ap ipv4_bits c.ip-in-V4-V4.ensures)
    c.port.ensures c.port-in-V4-V4.ensures (sym c.in-V4-V4.is-0 ∙ from) (sym c.in-V4-V4.is-1 ∙ to) same)

pub returns-in-V6-V6 : goal.returns-in-V6-V6
returns-in-V6-V6 c k is from to same =
    ap Some (between_v6 k is c.in-V6-V6.source c.in-V6-V6.destination _ _ _ _ _
    (c.octets.ensures ∙ ap ipv6_octets c.ip-in-V6-V6.ensures) (c.octets-in-V6-V6.ensures ∙ ap ipv6_octets c.ip-in-V6-V6-2.ensures)
    c.port-in-V6-V6.ensures c.port-in-V6-V6-2.ensures (sym c.in-V6-V6.is-0 ∙ from) (sym c.in-V6-V6.is-1 ∙ to) same)
