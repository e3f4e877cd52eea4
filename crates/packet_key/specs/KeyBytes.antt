-- The bytes of a flow key, each number in network byte order: the most significant byte first (RFC 1700).
use Rattle.std.specs.Prelude.{ℕ, List, [], ◌∷◌, ◌++◌}
use Rattle.std.specs.Int.{to_be_bytes, w16, w32}
use Rattle.packet_key.specs.declared.key.FlowKey.{FlowKey}
use Rattle.packet_key.specs.declared.key.FlowKey.TheVariants.{V4, V6}

-- source port, destination port, protocol
abbrev pub tail_of : ℕ → ℕ → ℕ → List ℕ
tail_of sport dport proto = to_be_bytes w16 sport ++ to_be_bytes w16 dport ++ proto ∷ []

-- source, destination, source port, destination port, protocol: 13 bytes for IPv4, 37 for IPv6
abbrev pub bytes_of : FlowKey → List ℕ
bytes_of (V4 src dst sport dport proto) = to_be_bytes w32 src ++ to_be_bytes w32 dst ++ tail_of sport dport proto
bytes_of (V6 src dst sport dport proto) = src ++ dst ++ tail_of sport dport proto
