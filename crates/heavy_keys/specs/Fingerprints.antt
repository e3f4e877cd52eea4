-- The fingerprint of a key, by which keys are told apart in slots, bits and buckets: of its addresses and ports.
use Rattle.std.specs.Prelude.{ℕ, ◌+◌, ◌*◌, ◌/◌, ◌%◌, ◌^◌, List, bit_xor}
use Rattle.std.specs.Int.{from_be_bytes, w128}
use Rattle.packet_key.specs.declared.key.FlowKey.{FlowKey}
use Rattle.packet_key.specs.declared.key.FlowKey.TheVariants.{V4, V6}

-- a number of 64 bits times the odd one next to 2 ^ 64 over the golden ratio
abbrev pub times_golden : ℕ → ℕ
times_golden number = (number * 0x9E3779B97F4A7C15) % 2 ^ 64

-- of addresses and ports in a number each
unfoldable pub ends_fingerprint : ℕ → ℕ → ℕ
ends_fingerprint ends ports = times_golden (bit_xor ends (times_golden ports))

-- both halves of an address of IPv6 in one number
unfoldable pub address_fingerprint : List ℕ → ℕ
address_fingerprint address =
    let number = from_be_bytes w128 address in
    bit_xor (times_golden (number / 18446744073709551616)) (number % 18446744073709551616)

-- the fingerprint of a key
unfoldable pub fingerprint_of : FlowKey → ℕ
fingerprint_of (V4 src dst sport dport proto) = ends_fingerprint (src * 4294967296 + dst) (sport * 65536 + dport)
fingerprint_of (V6 src dst sport dport proto) = ends_fingerprint
    (bit_xor (times_golden (address_fingerprint src)) (address_fingerprint dst)) (sport * 65536 + dport)
