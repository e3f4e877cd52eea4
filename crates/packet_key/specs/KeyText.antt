-- The text of a flow key: each end as RFC 3986 (section 3.2.2) writes a host and a port, IPv6 addresses in the
-- first form of RFC 4291 (section 2.2), with no leading zeros and no group left out.
use Rattle.std.specs.Prelude.{◌≡◌, ℕ, ◌^◌, ◌<◌, List, length, ◌++◌, slice_index, codes, decimal}
use Rattle.std.specs.Int.{to_be_bytes, w32}
use Rattle.std.specs.Net.Addr.{segments_of}
use Rattle.std.specs.Net.Text.{ipv4_text, groups_text}
use Rattle.packet_key.specs.declared.key.FlowKey.{FlowKey}
use Rattle.packet_key.specs.declared.key.FlowKey.TheVariants.{V4, V6}

-- `A:P`: four decimal numbers with dots between them, and the port
unfoldable pub v4_end : ℕ → ℕ → List ℕ
v4_end address port = ipv4_text (to_be_bytes w32 address) ++ codes ":" ++ decimal port

-- `[A]:P`: eight groups in lower-case hexadecimal with colons between them, and the port
unfoldable pub v6_end : List ℕ → ℕ → List ℕ
v6_end address port = codes "[" ++ groups_text (segments_of address) ++ codes "]:" ++ decimal port

-- `S>D/N`: the source, the destination and the protocol
unfoldable pub flow_text : List ℕ → List ℕ → ℕ → List ℕ
flow_text source destination proto = source ++ codes ">" ++ destination ++ codes "/" ++ decimal proto

-- the text of a key
unfoldable pub text_of : FlowKey → List ℕ
text_of (V4 src dst sport dport proto) = flow_text (v4_end src sport) (v4_end dst dport) proto
text_of (V6 src dst sport dport proto) = flow_text (v6_end src sport) (v6_end dst dport) proto

-- 16 bytes
pub record IsAddress (address : List ℕ) : Type 0 where
  pub len : length address ≡ 16
  pub bytes : (k : ℕ) → slice_index address k < 256

-- the numbers of a key are in the ranges of their types
abbrev pub IsKey : FlowKey → Type 0
IsKey (V4 src dst sport dport proto) =
    (src < 2 ^ 32) × (dst < 2 ^ 32) × (sport < 2 ^ 16) × (dport < 2 ^ 16) × (proto < 2 ^ 8)
IsKey (V6 src dst sport dport proto) =
    IsAddress src × IsAddress dst × (sport < 2 ^ 16) × (dport < 2 ^ 16) × (proto < 2 ^ 8)
