-- Where the text of a key is cut.
use Rattle.std.proofs.Common.{◌≡◌, ◌∙◌, ℕ, List, ◌∷◌, ◌++◌, Option, decimal, refl, arith, append_assoc}
use Rattle.std.proofs.lemmas.Str.Pattern.{IsSplitOnceResult, split_after}
use Rattle.std.specs.Borrow.{Bor}
use Rattle.std.specs.Option.{MatchOption}
use Rattle.packet_key.specs.declared.key.FlowKey.{FlowKey}
use Rattle.packet_key.specs.Ends.{protocol_of}
use Rattle.packet_key.specs.KeyText.{IsKey, flow_text, text_of}
use Rattle.packet_key.proofs.Bytes.{source_text, destination_text, Made-source, Made-destination, lacks, text_parts}

pub flow_cut : (source destination : List ℕ) (proto : ℕ)
    → flow_text source destination proto ≡ source ++ (62 ∷ (destination ++ (47 ∷ decimal proto)))
unfolding flow_text
flow_cut source destination proto = simp append_assoc

-- at `>` stand the source, and the rest
pub split_source : (k : FlowKey) → IsKey k → (text : List ℕ) → text ≡ text_of k
    → (r : Option (Bor (List ℕ) × Bor (List ℕ))) → IsSplitOnceResult 62 text r
    → MatchOption r ⊥ (λ x. (x.0.now ≡ source_text k) × (x.1.now ≡ destination_text k ++ (47 ∷ decimal (protocol_of k))))
split_source k is text same r cut =
    split_after 62 text (source_text k) (destination_text k ++ (47 ∷ decimal (protocol_of k))) r cut (omega arith)
    (same ∙ text_parts k ∙ flow_cut _ _ _) (λ i lt. lacks 62 (source_text k) refl (Made-source k is) i 0 lt)

-- at `/` stand the destination and the protocol
pub split_destination : (k : FlowKey) → IsKey k → (rest : List ℕ) → rest ≡ destination_text k ++ (47 ∷ decimal (protocol_of k))
    → (r : Option (Bor (List ℕ) × Bor (List ℕ))) → IsSplitOnceResult 47 rest r
    → MatchOption r ⊥ (λ x. (x.0.now ≡ destination_text k) × (x.1.now ≡ decimal (protocol_of k)))
split_destination k is rest same r cut =
    split_after 47 rest (destination_text k) (decimal (protocol_of k)) r cut (omega arith)
    same (λ i lt. lacks 47 (destination_text k) refl (Made-destination k is) i 0 lt)
