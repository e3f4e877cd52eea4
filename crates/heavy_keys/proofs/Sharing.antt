-- Bits that are set as candidates come.
use Rattle.std.proofs.Common.{◌≡◌, ℕ, ◌<◌, ◌/◌, Bool, true, false, List, [], ◌∷◌, ◌++◌, length, get_or, set, take, ◌+◌, refl, sym, ◌∙◌, ap, subst, arith, zero, suc, map, filter, not, ap₂, ◌≤◌}
use Rattle.std.specs.List.{All}
use Rattle.std.proofs.lemmas.List.{get_or-set_same, take_more, length-set, length-map}
use Rattle.std.proofs.lemmas.List.Elements.{All-push, All-weaker, All-get_or, All-head, All-tail, All-contains}
use Rattle.std.proofs.lemmas.List.Quantifiers.{all_pairs_push}
use Rattle.packet_key.specs.declared.key.FlowKey.{FlowKey}
use Rattle.hash_rows.specs.declared.shape.Packet.{Packet}
use Rattle.heavy_keys.specs.Candidates.{IsCandidate, candidate_key}
use Rattle.heavy_keys.specs.SharedBits.{AreShared, bit_of, is_set, is_shared}
use Rattle.heavy_keys.specs.Fingerprints.{fingerprint_of}
use Rattle.heavy_keys.specs.declared.candidates.Candidate.{Candidate}
use Rattle.push_history.specs.LiveHeavy.{same_key}
use Rattle.std.specs.List.{count_by}
use Rattle.std.specs.Set.{distinct_count}
use Rattle.std.proofs.lemmas.Map.Made.{distinct_count-le}
use Rattle.heavy_keys.proofs.Counting.{AreMarked, count_apart}
use Rattle.heavy_keys.proofs.Members.{contains_from}

-- the bit of each candidate is set
abbrev pub AreTouched : ℕ → List Candidate → List Bool → Type 0
AreTouched len candidates bits = All (λ c. is_set bits (bit_of c.fingerprint len) ≡ true) candidates

-- a bit that was set stays so
stays : (bits : List Bool) (i p : ℕ) → get_or bits p false ≡ true → get_or (set bits i true) p false ≡ true
stays [] i p h = h
stays (b ∷ bits) zero zero h = refl
stays (b ∷ bits) zero (suc p) h = h
stays (b ∷ bits) (suc i) zero h = h
stays (b ∷ bits) (suc i) (suc p) h = stays bits i p h

-- one more candidate
pub touched_more : (len : ℕ) (xs : List Candidate) (c : Candidate) (bits : List Bool) → bit_of c.fingerprint len < length bits → AreTouched len xs bits → AreTouched len (xs ++ c ∷ []) (set bits (bit_of c.fingerprint len) true)
touched_more len xs c bits inside h =
    All-push (λ (x : Candidate). is_set (set bits (bit_of c.fingerprint len) true) (bit_of x.fingerprint len) ≡ true) xs c
    (All-weaker (λ (x : Candidate). is_set bits (bit_of x.fingerprint len) ≡ true) (λ (x : Candidate). is_set (set bits (bit_of c.fingerprint len) true) (bit_of x.fingerprint len) ≡ true)
    (λ x k. stays bits (bit_of c.fingerprint len) (bit_of x.fingerprint len) k) xs h)
    (get_or-set_same bits (bit_of c.fingerprint len) true false inside)

pub shared_more : (len few : ℕ) (xs : List Candidate) (c : Candidate) (touched old new : List Bool) → AreTouched len xs touched → AreShared few xs old
    → (is_set touched (bit_of c.fingerprint len) ≡ true → is_set new (bit_of c.fingerprint few) ≡ true) → ((place : ℕ) → is_set old place ≡ true → is_set new place ≡ true)
    → AreShared few (xs ++ c ∷ []) new
shared_more len few xs c touched old new each before again kept =
    all_pairs_push (λ (x y : Candidate). x.fingerprint ≡ y.fingerprint → is_set new (bit_of x.fingerprint few) ≡ true) xs c
    (λ i j d lt below same. kept (bit_of (get_or xs i d).fingerprint few) (before i j d lt below same))
    (λ k d below same.
    let met : is_set touched (bit_of (get_or xs k d).fingerprint len) ≡ true = All-get_or (λ (x : Candidate). is_set touched (bit_of x.fingerprint len) ≡ true) xs k d below each in
    subst (λ s. is_set new (bit_of s few) ≡ true) (sym same) (again (subst (λ s. is_set touched (bit_of s len) ≡ true) same met)))

-- how far the bits are when so many candidates were met
abbrev pub Sharing : ℕ → ℕ → List Candidate → List Bool → List Bool → Type 0
Sharing len few candidates touched shared = (length touched ≡ len) × (length shared ≡ few) × AreTouched len candidates touched × AreShared few candidates shared

module _ (len few i : ℕ) (xs : List Candidate) (d : Candidate) (touched shared more_touched more_shared : List Bool) where
  pub sharing_more : i < length xs → bit_of (get_or xs i d).fingerprint (length touched) < length touched → Sharing len few (take i xs) touched shared
      → more_touched ≡ set touched (bit_of (get_or xs i d).fingerprint (length touched)) true
      → (is_set touched (bit_of (get_or xs i d).fingerprint (length touched)) ≡ true → is_set more_shared (bit_of (get_or xs i d).fingerprint (length shared)) ≡ true)
      → ((place : ℕ) → is_set shared place ≡ true → is_set more_shared place ≡ true) → length more_shared ≡ length shared
      → Sharing len few (take (i + 1) xs) more_touched more_shared
  sharing_more below inside h put again kept same =
      let c : Candidate = get_or xs i d in
      let grown = take_more xs i d below in
      let room : bit_of c.fingerprint len < length touched = subst (λ n. bit_of c.fingerprint n < length touched) h.0 inside in
      let placed : more_touched ≡ set touched (bit_of c.fingerprint len) true = put ∙ ap (λ n. set touched (bit_of c.fingerprint n) true) h.0 in (
        ap length put ∙ length-set touched (bit_of c.fingerprint (length touched)) true ∙ h.0,
        same ∙ h.1,
        subst (λ l. AreTouched len l more_touched) (sym grown) (subst (AreTouched len (take i xs ++ c ∷ [])) (sym placed) (touched_more len (take i xs) c touched room h.2)),
        subst (λ l. AreShared few l more_shared) (sym grown) (shared_more len few (take i xs) c touched shared more_shared h.2 h.3
            (subst (λ n. is_set touched (bit_of c.fingerprint n) ≡ true → is_set more_shared (bit_of c.fingerprint few) ≡ true) h.0
            (subst (λ n. is_set touched (bit_of c.fingerprint (length touched)) ≡ true → is_set more_shared (bit_of c.fingerprint n) ≡ true) h.1 again)) kept),
      )

-- candidates with the same key have the same fingerprint, so both are marked
module _ (packets : List Packet) (bits : List Bool) where
  same_spread : (x y : Candidate) → IsCandidate packets x → IsCandidate packets y → candidate_key packets x ≡ candidate_key packets y → x.fingerprint ≡ y.fingerprint
  same_spread x y p q same = p.fingerprint ∙ ap (λ (k : FlowKey). fingerprint_of k / 4294967296) same ∙ sym q.fingerprint

  pub marked : (xs : List Candidate) → All (IsCandidate packets) xs → AreShared (length bits) xs bits → AreMarked (candidate_key packets) (is_shared bits) xs
  marked [] each shared = tt
  marked (x ∷ xs) each shared = (
    (λ y has same.
        let c = contains_from xs y has in
        let fingerprint = same_spread x y (All-head (IsCandidate packets) x xs each) (All-contains (IsCandidate packets) xs y (All-tail (IsCandidate packets) x xs each) c) same in
        let first : is_shared bits x ≡ true = shared 0 (suc c.0) y (omega arith) (omega (arith, c.1)) (subst (λ (z : Candidate). x.fingerprint ≡ z.fingerprint) (sym c.2) fingerprint) in
        (first, subst (λ s. is_set bits (bit_of s (length bits)) ≡ true) fingerprint first)),
    marked xs (All-tail (IsCandidate packets) x xs each) (λ i j d lt below. shared (suc i) (suc j) d (omega arith) (omega arith)),
  )

  -- those whose bit is their own, and the different keys of the others
  pub counted : (xs : List Candidate) (lone others : ℕ) (rest : List FlowKey) → All (IsCandidate packets) xs → AreShared (length bits) xs bits → lone ≡ count_by (λ c. not (is_shared bits c)) xs
      → rest ≡ map (candidate_key packets) (filter (is_shared bits) xs) → others ≡ distinct_count same_key rest → lone + others ≡ distinct_count same_key (map (candidate_key packets) xs)
  counted xs lone others rest each shared alone keys once =
      ap₂ (λ m n. m + n) alone (once ∙ ap (distinct_count same_key) keys) ∙ sym (count_apart (candidate_key packets) (is_shared bits) xs (marked xs each shared))

-- there are no more different keys than candidates
pub counted_le : (packets : List Packet) (xs : List Candidate) (n : ℕ) → n ≡ distinct_count same_key (map (candidate_key packets) xs) → n ≤ length xs
counted_le packets xs n e = omega (arith, e, distinct_count-le same_key (map (candidate_key packets) xs), length-map xs (candidate_key packets))
