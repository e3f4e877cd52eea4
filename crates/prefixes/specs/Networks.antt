-- IPv4 networks whose length is that of whole bytes (RFC 4632, section 3.1).
use Rattle.std.specs.Prelude.{◌≡◌, ◌≢◌, ◌<◌, ◌≤◌, ◌⊎◌, ℕ, ◌-◌, ◌%◌, ◌^◌, List, length, All, AllPairs}
use Rattle.packet_key.specs.declared.key.FlowKey.{FlowKey}
use Rattle.packet_key.specs.declared.key.FlowKey.TheVariants.{V4}
use Rattle.prefixes.specs.declared.network.Prefix.{Prefix}

-- the length of one, two, three or four whole bytes
abbrev pub IsLength : ℕ → Type 0
IsLength length = (length ≡ 8) ⊎ (length ≡ 16) ⊎ (length ≡ 24) ⊎ (length ≡ 32)

-- how many addresses a network of the length has
unfoldable pub addresses_in : ℕ → ℕ
addresses_in length = 2 ^ (32 - length)

-- a length of whole bytes, and an address of 32 bits of which those behind the length are 0
pub record IsNetwork (p : Prefix) : Type 0 where
  pub length : IsLength p.length
  pub fits : p.bits < 2 ^ 32
  pub rest : p.bits % addresses_in p.length ≡ 0

-- the network of the length that the address is in
unfoldable pub network_of : ℕ → ℕ → Prefix
network_of length address = record { bits = address - address % addresses_in length; length = length }

-- the key that stands for a network in a sketch
abbrev pub prefix_key : Prefix → FlowKey
prefix_key p = V4 p.bits 0 0 0 p.length

-- at most 16 networks, which differ
pub record AreWatched (watch : List Prefix) : Type 0 where
  pub most : length watch ≤ 16
  pub are_networks : All IsNetwork watch
  pub differ : AllPairs (λ p q. p ≢ q) watch
