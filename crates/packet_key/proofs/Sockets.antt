-- The ends of a key as socket addresses: their texts are in std's grammar, and give the ends back.
use Rattle.std.proofs.Common.{◌≡◌, ℕ, zero, suc, ◌+◌, ◌*◌, ◌/◌, ◌%◌, ◌<◌, ◌^◌, true, List, [], ◌∷◌, length, get_or, flat_map, Result, Ok, decimal, refl, ap, ap₂, inl, inr, arith, append_assoc, le-leb}
use Rattle.std.proofs.lemmas.Bool.{cases_lt, lt-leb}
use Rattle.std.proofs.lemmas.Bool.Decides.{nat_tests}
use Rattle.std.proofs.lemmas.Fmt.{parse-decimal}
use Rattle.std.proofs.lemmas.Nat.{from_be_bytes-to_be_bytes_4}
use Rattle.std.proofs.NetLemmas.Texts.{IsDotted-ipv4_text, IsPortText-decimal}
use Rattle.std.proofs.NetLemmas.Theorems.{Parses_gives, IsSocketText_unique}
use Rattle.std.specs.Char.{digit_value, digit_char}
use Rattle.std.specs.Int.{to_be_bytes, w32}
use Rattle.std.specs.Net.Addr.{segments_of, octets_of, ipv4_bits, ipv6_octets}
use Rattle.std.specs.Net.Grammar.{Parses, IsGroup, IsGroupsAfter, IsGroups, IsSocketText}
use Rattle.std.specs.Net.Socket.{v4_ip, v4_port, v6_ip, v6_port}
use Rattle.std.specs.Net.Text.{ipv4_text, hex, groups_text}
use Rattle.std.specs.Str.Parse.{ParsesUnsigned}
use Rattle.std.specs.declared.net.socket_addr.SocketAddrV4.{SocketAddrV4}
use Rattle.std.specs.declared.net.socket_addr.SocketAddrV6.{SocketAddrV6}
use Rattle.std.specs.declared.net.socket_addr.SocketAddr.{SocketAddr}
use Rattle.std.specs.declared.net.socket_addr.SocketAddr.TheVariants as Socket
use Rattle.packet_key.specs.declared.key.FlowKey.{FlowKey}
use Rattle.packet_key.specs.declared.key.FlowKey.TheVariants.{V4, V6}
use Rattle.packet_key.specs.Ends.{v4_address, v6_address, source_of, destination_of, protocol_of}
use Rattle.packet_key.specs.KeyText.{IsAddress, IsKey, v4_end, v6_end}
use Rattle.packet_key.proofs.Bytes.{source_text, destination_text, AreGroups, groups_fit, octets_fit}

module _ {E : Type 0} where
  pub parsed_socket : (text : List ℕ) (a : SocketAddr) (r : Result SocketAddr E) → Parses IsSocketText text r → IsSocketText text a → r ≡ Ok a
  parsed_socket text a r parsed spelled = Parses_gives IsSocketText text a r (IsSocketText_unique text) spelled parsed

  pub parsed_protocol : (text : List ℕ) (n : ℕ) (r : Result ℕ E) → ParsesUnsigned 8 10 text r → n < 256 → text ≡ decimal n → r ≡ Ok n
  parsed_protocol text n r parsed small spelled = parse-decimal 8 n text r (omega arith) (omega arith) spelled parsed

digit_value-digit_char : (d : ℕ) → d < 16 → digit_value (digit_char d) ≡ d
digit_value-digit_char d h = grind (arith, nat_tests)

-- The digits are those of n, and the ones that are left out are 0.
IsGroup-hex : (n : ℕ) → n < 2 ^ 16 → IsGroup (hex n) n
unfolding hex
IsGroup-hex n fits =
    let a = digit_value-digit_char (n / 0x1000) (omega arith) in
    let b = digit_value-digit_char (n / 0x100 % 16) (omega arith) in
    let c = digit_value-digit_char (n / 0x10 % 16) (omega arith) in
    let d = digit_value-digit_char (n % 16) (omega arith) in
    elim (cases_lt n 0x1000) [
      | inr four ↦ rw (le-leb _ n four) (omega arith)
      | inl h₃ ↦ elim (cases_lt n 0x100) [
        | inr three ↦ rw (lt-leb _ n h₃, le-leb _ n three) (omega arith)
        | inl h₂ ↦ elim (cases_lt n 0x10) [
          | inr two ↦ rw (lt-leb _ n h₃, lt-leb _ n h₂, le-leb _ n two) (omega arith)
          | inl h₁ ↦ rw (lt-leb _ n h₃, lt-leb _ n h₂, lt-leb _ n h₁) (omega arith)
        ]
      ]
    ]

more_groups : (xs : List ℕ) → AreGroups xs → IsGroupsAfter true (58 ∷ []) (flat_map (λ t. 58 ∷ hex t) xs) xs
more_groups [] h = refl
more_groups (x ∷ xs) h = inl (hex x, _, refl, IsGroup-hex x (h 0), more_groups xs (λ j. h (suc j)))

IsGroups-groups_text : (xs : List ℕ) → AreGroups xs → IsGroups true (groups_text xs) xs
IsGroups-groups_text [] h = refl
IsGroups-groups_text (x ∷ xs) h = inl (hex x, _, refl, IsGroup-hex x (h 0), more_groups xs (λ j. h (suc j)))

length-segments_of : (n : ℕ) (xs : List ℕ) → length xs ≡ 2 * n → length (segments_of xs) ≡ n
length-segments_of zero [] len = refl
length-segments_of zero (a ∷ xs) len = absurd (omega arith)
length-segments_of (suc n) [] len = absurd (omega arith)
length-segments_of (suc n) (a ∷ []) len = absurd (omega arith)
length-segments_of (suc n) (a ∷ b ∷ xs) len = ap suc (length-segments_of n xs (omega arith))

spells_v4 : (address port : ℕ) → port < 2 ^ 16 → IsSocketText (v4_end address port) (Socket.V4 (v4_address address port))
unfolding v4_end
spells_v4 address port fits = (
  ipv4_text (to_be_bytes w32 address),
  58 ∷ decimal port,
  append_assoc (ipv4_text (to_be_bytes w32 address)) (58 ∷ []) (decimal port),
  IsDotted-ipv4_text (to_be_bytes w32 address) refl (octets_fit address),
  IsPortText-decimal port fits,
)

spells_v6 : (address : List ℕ) (port : ℕ) → IsAddress address → port < 2 ^ 16 → IsSocketText (v6_end address port) (Socket.V6 (v6_address address port))
unfolding v6_end
spells_v6 address port is fits = record {
  ip = groups_text (segments_of address);
  scope = [];
  port = 58 ∷ decimal port;
  spelled = simp append_assoc;
  ip_text = inl (IsGroups-groups_text (segments_of address) (groups_fit address is.bytes), length-segments_of 8 address is.len);
  scope_text = inl (refl, refl);
  port_text = IsPortText-decimal port fits;
  no_flowinfo = refl;
}

pub spells_source : (k : FlowKey) → IsKey k → IsSocketText (source_text k) (source_of k)
spells_source (V4 src dst sport dport proto) is = spells_v4 src sport is.2
spells_source (V6 src dst sport dport proto) is = spells_v6 src sport is.0 is.2

pub spells_destination : (k : FlowKey) → IsKey k → IsSocketText (destination_text k) (destination_of k)
spells_destination (V4 src dst sport dport proto) is = spells_v4 dst dport is.3
spells_destination (V6 src dst sport dport proto) is = spells_v6 dst dport is.1 is.3

pub octets_of-segments_of : (n : ℕ) (xs : List ℕ) → length xs ≡ 2 * n → ((k : ℕ) → get_or xs k 0 < 256) → octets_of (segments_of xs) ≡ xs
octets_of-segments_of zero [] len fits = refl
octets_of-segments_of zero (a ∷ xs) len fits = absurd (omega arith)
octets_of-segments_of (suc n) [] len fits = absurd (omega arith)
octets_of-segments_of (suc n) (a ∷ []) len fits = absurd (omega arith)
octets_of-segments_of (suc n) (a ∷ b ∷ xs) len fits =
    let low : b < 256 = fits 1 in
    let high : (a * 256 + b) / 256 ≡ a = omega arith in
    let rest : (a * 256 + b) % 256 ≡ b = omega arith in
    let later = octets_of-segments_of n xs (omega arith) (λ j. fits (suc (suc j))) in
    ap₂ (λ (x : ℕ) (ys : List ℕ). x ∷ ys) high (ap₂ (λ (x : ℕ) (ys : List ℕ). x ∷ ys) rest later)

pub between_v4 : (k : FlowKey) → IsKey k → (a b : SocketAddrV4) (src dst sport dport proto : ℕ)
    → src ≡ ipv4_bits (v4_ip a) → dst ≡ ipv4_bits (v4_ip b) → sport ≡ v4_port a → dport ≡ v4_port b
    → Socket.V4 a ≡ source_of k → Socket.V4 b ≡ destination_of k → proto ≡ protocol_of k
    → V4 src dst sport dport proto ≡ k
unfolding ipv4_bits
between_v4 (V4 src₁ dst₁ sport₁ dport₁ proto₁) is a b src dst sport dport proto s d sp dp from to same =
    let mine = from_be_bytes-to_be_bytes_4 src₁ is.0 in
    let other = from_be_bytes-to_be_bytes_4 dst₁ is.1 in
    cc
between_v4 (V6 src₁ dst₁ sport₁ dport₁ proto₁) is a b src dst sport dport proto s d sp dp from to same = cc

pub between_v6 : (k : FlowKey) → IsKey k → (a b : SocketAddrV6) (src dst : List ℕ) (sport dport proto : ℕ)
    → src ≡ ipv6_octets (v6_ip a) → dst ≡ ipv6_octets (v6_ip b) → sport ≡ v6_port a → dport ≡ v6_port b
    → Socket.V6 a ≡ source_of k → Socket.V6 b ≡ destination_of k → proto ≡ protocol_of k
    → V6 src dst sport dport proto ≡ k
between_v6 (V6 src₁ dst₁ sport₁ dport₁ proto₁) is a b src dst sport dport proto s d sp dp from to same =
    let mine = octets_of-segments_of 8 src₁ is.0.len is.0.bytes in
    let other = octets_of-segments_of 8 dst₁ is.1.len is.1.bytes in
    cc
between_v6 (V4 src₁ dst₁ sport₁ dport₁ proto₁) is a b src dst sport dport proto s d sp dp from to same = cc
