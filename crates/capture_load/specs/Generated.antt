-- The generated capture: a libpcap savefile of numbered records whose fields come from SplitMix64.
use Rattle.std.specs.Prelude.{ℕ, ◌+◌, ◌-◌, ◌*◌, ◌/◌, ◌%◌, ◌^◌, ◌==◌, List, [], ◌∷◌, ◌++◌, bit_and, if◌then◌else◌}
use Rattle.std.specs.List.{flat_map, range_with_len}
use Rattle.std.specs.Int.{to_be_bytes, to_le_bytes, w16, w32}
use Rattle.hash_rows.specs.Hash.{mix_of}

-- the number from which record i takes its fields
unfoldable pub drawn : ℕ → ℕ → ℕ
drawn start i = mix_of ((start + (i + 1) * 0x9E3779B97F4A7C15) % 2 ^ 64)

-- one of 256 flows, most often one of the few with many low bits
abbrev pub flow_of : ℕ → ℕ
flow_of x = bit_and (x % 256) (x / 256 % 256)

-- one of four destinations
abbrev pub target_of : ℕ → ℕ
target_of x = x / 65536 % 4

-- the packet's original length
abbrev pub length_of : ℕ → ℕ
length_of x = 60 + x / 2 ^ 32 % 1400

-- the little-endian header of a capture, version 2.4, of Ethernet frames
abbrev pub file_header : List ℕ
file_header = 0xd4 ∷ 0xc3 ∷ 0xb2 ∷ 0xa1 ∷ 2 ∷ 0 ∷ 4 ∷ 0 ∷ 0 ∷ 0 ∷ 0 ∷ 0 ∷ 0 ∷ 0 ∷ 0 ∷ 0 ∷ 0xff ∷ 0xff ∷ 0 ∷ 0 ∷ 1 ∷ 0 ∷ 0 ∷ 0 ∷ []

-- seconds, fraction, captured and original length
unfoldable pub record_header : ℕ → ℕ → List ℕ
record_header i x = to_le_bytes w32 (i / 1000) ++ to_le_bytes w32 (i % 1000 * 1000) ++ to_le_bytes w32 42 ++ to_le_bytes w32 (length_of x)

-- the Ethernet header of IPv4
abbrev pub ethernet_header : List ℕ
ethernet_header = 2 ∷ 0 ∷ 0 ∷ 0 ∷ 0 ∷ 2 ∷ 2 ∷ 0 ∷ 0 ∷ 0 ∷ 0 ∷ 1 ∷ 8 ∷ 0 ∷ []

-- TCP for even flows, UDP for odd ones
abbrev pub protocol_of_flow : ℕ → ℕ
protocol_of_flow flow = if flow % 2 == 0 then 6 else 17

-- an IPv4 header of 20 bytes without a checksum
unfoldable pub ip_header : ℕ → List ℕ
ip_header x =
    (0x45 ∷ 0 ∷ []) ++ to_be_bytes w16 (length_of x - 14)
    ++ (0 ∷ 0 ∷ 0 ∷ 0 ∷ 0x40 ∷ protocol_of_flow (flow_of x) ∷ 0 ∷ 0 ∷ 10 ∷ 0 ∷ 0 ∷ flow_of x ∷ 10 ∷ 0 ∷ 1 ∷ target_of x ∷ [])

-- the ports, and four bytes more of TCP or UDP
unfoldable pub port_bytes : ℕ → List ℕ
port_bytes x = to_be_bytes w16 (1024 + flow_of x) ++ (0x01 ∷ 0xbb ∷ 0 ∷ 0 ∷ 0 ∷ 0 ∷ [])

-- the 58 bytes of record i
unfoldable pub generated_record : ℕ → ℕ → List ℕ
generated_record start i =
    let x = drawn start i in
    record_header i x ++ ethernet_header ++ ip_header x ++ port_bytes x

-- the bytes of so many records from number `from` on
unfoldable pub generated_from : ℕ → ℕ → ℕ → List ℕ
generated_from start from count = flat_map (generated_record start) (range_with_len from count)

-- the generated capture of so many records
unfoldable pub generated : ℕ → ℕ → List ℕ
generated records start = file_header ++ generated_from start 0 records
