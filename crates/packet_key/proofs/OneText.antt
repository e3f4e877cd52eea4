-- Two keys of one text are one key.
use Rattle.std.proofs.Common.{◌≡◌, ◌∙◌, ℕ, List, [], ◌∷◌, ◌++◌, refl, sym, subst, arith}
use Rattle.std.proofs.lemmas.Fmt.{decimal_injective}
use Rattle.std.proofs.lemmas.List.Elements.{All-head, All-tail}
use Rattle.std.proofs.lemmas.Nat.{from_be_bytes-to_be_bytes_4}
use Rattle.std.proofs.NetLemmas.Theorems.{IsSocketText_unique}
use Rattle.std.specs.Net.Addr.{ipv4_bits}
use Rattle.std.specs.Net.Grammar.{IsSocketText}
use Rattle.packet_key.specs.declared.key.FlowKey.{FlowKey}
use Rattle.packet_key.specs.declared.key.FlowKey.TheVariants.{V4, V6}
use Rattle.packet_key.specs.Alphabet.{Lacks}
use Rattle.packet_key.specs.Ends.{source_of, destination_of, protocol_of, v4_address, v6_address}
use Rattle.packet_key.specs.KeyText.{IsKey, text_of}
use Rattle.packet_key.proofs.Bytes.{source_text, destination_text, Made-source, Made-destination, lacks, text_parts, protocol_fits}
use Rattle.packet_key.proofs.Sockets.{spells_source, spells_destination, between_v4, between_v6, octets_of-segments_of}
use Rattle.packet_key.proofs.Splits.{flow_cut}

-- a text is cut in one way at a byte that the front lacks
one_cut : (c : ℕ) (xs xs₂ ys ys₂ : List ℕ) → Lacks c xs → Lacks c xs₂ → xs ++ (c ∷ ys) ≡ xs₂ ++ (c ∷ ys₂)
    → (xs ≡ xs₂) × (ys ≡ ys₂)
one_cut c [] [] ys ys₂ lacks₁ lacks₂ same = (refl, cc)
one_cut c [] (x ∷ xs₂) ys ys₂ lacks₁ lacks₂ same = absurd (All-head (λ b. b ≡ c → ⊥) x xs₂ lacks₂ (cc))
one_cut c (x ∷ xs) [] ys ys₂ lacks₁ lacks₂ same = absurd (All-head (λ b. b ≡ c → ⊥) x xs lacks₁ (cc))
one_cut c (x ∷ xs) (x₂ ∷ xs₂) ys ys₂ lacks₁ lacks₂ same =
    let heads : x ≡ x₂ = cc in
    let tails : xs ++ (c ∷ ys) ≡ xs₂ ++ (c ∷ ys₂) = cc in
    let rest = one_cut c xs xs₂ ys ys₂ (All-tail (λ b. b ≡ c → ⊥) x xs lacks₁) (All-tail (λ b. b ≡ c → ⊥) x₂ xs₂ lacks₂) tails in
    (cc rest.0, rest.1)

-- the parts of keys with one text are equal
pub record SameEnds (k l : FlowKey) : Type 0 where
  pub source : source_of k ≡ source_of l
  pub destination : destination_of k ≡ destination_of l
  pub protocol : protocol_of k ≡ protocol_of l

same_ends : (k l : FlowKey) → IsKey k → IsKey l → text_of k ≡ text_of l → SameEnds k l
same_ends k l is too same =
    let cut = sym (text_parts k ∙ flow_cut (source_text k) (destination_text k) (protocol_of k)) ∙ same ∙ text_parts l ∙ flow_cut (source_text l) (destination_text l) (protocol_of l) in
    let first = one_cut 62 (source_text k) (source_text l) _ _ (lacks 62 _ refl (Made-source k is)) (lacks 62 _ refl (Made-source l too)) cut in
    let second = one_cut 47 (destination_text k) (destination_text l) _ _ (lacks 47 _ refl (Made-destination k is)) (lacks 47 _ refl (Made-destination l too)) first.1 in
    let small = protocol_fits k is in
    let small₂ = protocol_fits l too in
    record {
      source = IsSocketText_unique (source_text k) _ _ (spells_source k is) (subst (λ t. IsSocketText t (source_of l)) (sym first.0) (spells_source l too));
      destination = IsSocketText_unique (destination_text k) _ _ (spells_destination k is) (subst (λ t. IsSocketText t (destination_of l)) (sym second.0) (spells_destination l too));
      protocol = decimal_injective _ _ (omega arith) (omega arith) second.1;
    }

pub one_key : (k l : FlowKey) → IsKey k → IsKey l → text_of k ≡ text_of l → k ≡ l
unfolding ipv4_bits
one_key (V4 src dst sport dport proto) l is too same =
    let ends = same_ends (V4 src dst sport dport proto) l is too same in
    between_v4 l too (v4_address src sport) (v4_address dst dport) src dst sport dport proto
    (sym (from_be_bytes-to_be_bytes_4 src is.0)) (sym (from_be_bytes-to_be_bytes_4 dst is.1)) refl refl
    ends.source ends.destination ends.protocol
one_key (V6 src dst sport dport proto) l is too same =
    let ends = same_ends (V6 src dst sport dport proto) l is too same in
    between_v6 l too (v6_address src sport) (v6_address dst dport) src dst sport dport proto
    (sym (octets_of-segments_of 8 src is.0.len is.0.bytes)) (sym (octets_of-segments_of 8 dst is.1.len is.1.bytes)) refl refl
    ends.source ends.destination ends.protocol
