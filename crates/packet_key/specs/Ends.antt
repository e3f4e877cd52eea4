-- The ends of a key as std's socket addresses, which the reading of a text meets.
use Rattle.std.specs.Prelude.{ℕ, List}
use Rattle.std.specs.Int.{to_be_bytes, w32}
use Rattle.std.specs.declared.net.socket_addr.SocketAddrV4.{SocketAddrV4}
use Rattle.std.specs.declared.net.socket_addr.SocketAddrV6.{SocketAddrV6}
use Rattle.std.specs.declared.net.socket_addr.SocketAddr.{SocketAddr}
use Rattle.std.specs.declared.net.socket_addr.SocketAddr.TheVariants as Socket
use Rattle.std.specs.Net.Addr.{segments_of}
use Rattle.packet_key.specs.declared.key.FlowKey.{FlowKey}
use Rattle.packet_key.specs.declared.key.FlowKey.TheVariants.{V4, V6}

-- an IPv4 address with a port
abbrev pub v4_address : ℕ → ℕ → SocketAddrV4
v4_address address port = record { ip = record { octets = to_be_bytes w32 address }; port = port }

-- an IPv6 address with a port
abbrev pub v6_address : List ℕ → ℕ → SocketAddrV6
v6_address address port = record { ip = record { segments = segments_of address }; port = port; flowinfo = 0; scope_id = 0 }

-- the source of a key with its port
abbrev pub source_of : FlowKey → SocketAddr
source_of (V4 src dst sport dport proto) = Socket.V4 (v4_address src sport)
source_of (V6 src dst sport dport proto) = Socket.V6 (v6_address src sport)

-- the destination of a key with its port
abbrev pub destination_of : FlowKey → SocketAddr
destination_of (V4 src dst sport dport proto) = Socket.V4 (v4_address dst dport)
destination_of (V6 src dst sport dport proto) = Socket.V6 (v6_address dst dport)

-- the protocol of a key
abbrev pub protocol_of : FlowKey → ℕ
protocol_of (V4 src dst sport dport proto) = proto
protocol_of (V6 src dst sport dport proto) = proto
