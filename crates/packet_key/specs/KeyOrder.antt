-- The order of flow keys: that of their bytes, as `memcmp` compares them, within a family.
use Rattle.std.specs.Ordering.{nat_cmp}
use Rattle.std.specs.declared.cmp.Ordering.{Ordering}
use Rattle.std.specs.Cmp.Lexicographic.{slice_cmp}
use Rattle.std.specs.declared.cmp.Ordering.TheVariants.{Less, Greater}
use Rattle.packet_key.specs.declared.key.FlowKey.{FlowKey}
use Rattle.packet_key.specs.declared.key.FlowKey.TheVariants.{V4, V6}
use Rattle.packet_key.specs.KeyBytes.{bytes_of}

-- each IPv4 key is before each IPv6 key, and within a family the order is that of the keys' bytes
abbrev pub key_order : FlowKey → FlowKey → Ordering
key_order (V4 src dst sport dport proto) (V6 src₂ dst₂ sport₂ dport₂ proto₂) = Less
key_order (V6 src dst sport dport proto) (V4 src₂ dst₂ sport₂ dport₂ proto₂) = Greater
key_order (V4 src dst sport dport proto) (V4 src₂ dst₂ sport₂ dport₂ proto₂) =
    slice_cmp nat_cmp (bytes_of (V4 src dst sport dport proto)) (bytes_of (V4 src₂ dst₂ sport₂ dport₂ proto₂))
key_order (V6 src dst sport dport proto) (V6 src₂ dst₂ sport₂ dport₂ proto₂) =
    slice_cmp nat_cmp (bytes_of (V6 src dst sport dport proto)) (bytes_of (V6 src₂ dst₂ sport₂ dport₂ proto₂))
