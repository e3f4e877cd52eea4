-- What the packets of a capture say of networks of one length.
use Rattle.std.specs.Prelude.{◌==◌, ℕ, Bool, false, List, [], ◌∷◌, map, sum_by, if◌then◌else◌}
use Rattle.std.specs.List.{flat_map}
use Rattle.packet_key.specs.declared.key.FlowKey.{FlowKey}
use Rattle.packet_key.specs.declared.key.FlowKey.TheVariants.{V4, V6}
use Rattle.hash_rows.specs.declared.shape.Packet.{Packet}
use Rattle.hash_rows.specs.declared.shape.Shape.{Shape}
use Rattle.hash_rows.specs.declared.options.Sketch.TheVariants.{CountMin}
use Rattle.hash_rows.specs.Rules.{rules_of}
use Rattle.hash_rows.specs.Sequential.{sequential_table}
use Rattle.hash_rows.specs.Tables.{TableView}
use Rattle.prefixes.specs.declared.network.Prefix.{Prefix}
use Rattle.prefixes.specs.Networks.{network_of, prefix_key}

-- the four lengths
abbrev pub lengths : List ℕ
lengths = 8 ∷ 16 ∷ 24 ∷ 32 ∷ []

-- the source of an IPv4 key, and none of an IPv6 key
abbrev pub sources_of : FlowKey → List ℕ
sources_of (V4 src dst sport dport proto) = src ∷ []
sources_of (V6 src dst sport dport proto) = []

-- a packet of this source as one of its network
abbrev pub packet_from : ℕ → ℕ → ℕ → Packet
packet_from length amount source = record { key = prefix_key (network_of length source); amount = amount }

-- an IPv4 packet as one of its source's network, and an IPv6 packet as none
unfoldable pub network_packets : ℕ → Packet → List Packet
network_packets length packet = map (packet_from length packet.amount) (sources_of packet.key)

-- each IPv4 packet in order, as one of its source's network
unfoldable pub level_packets : ℕ → List Packet → List Packet
level_packets length packets = flat_map (network_packets length) packets

-- the one Count-Min that takes each of these
unfoldable pub level_table : Shape → List Packet → ℕ → TableView
level_table shape packets length = sequential_table (rules_of CountMin) shape (level_packets length packets)

-- whether an IPv4 key's source is in the network
abbrev pub is_from : Prefix → FlowKey → Bool
is_from p (V4 src dst sport dport proto) = (network_of p.length src).bits == p.bits
is_from p (V6 src dst sport dport proto) = false

-- what the packets from the network amount to
unfoldable pub network_amount : List Packet → Prefix → ℕ
network_amount packets p = sum_by (λ packet. if is_from p packet.key then packet.amount else 0) packets

-- those of all four lengths
unfoldable pub level_tables : Shape → List Packet → List TableView
level_tables shape packets = map (level_table shape packets) lengths
