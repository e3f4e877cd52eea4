-- Candidates and the first of their ranks, as packets come.
use Rattle.std.proofs.Common.{◌≡◌, ℕ, ℤ, ◌<◌, ◌≤◌, ◌+◌, ◌/◌, ◌≤ℤ◌, List, [], ◌∷◌, ◌++◌, length, map, get_or, take, Contains, inl, inr, refl, sym, ◌∙◌, ap, subst, arith, append_assoc}
use Rattle.std.specs.BTreeSet.{insert_key}
use Rattle.std.specs.Global.{Vec}
use Rattle.std.proofs.lemmas.List.{append-nil, map-append, take_all}
use Rattle.std.proofs.lemmas.List.Elements.{All-push, Contains-append_cases, Contains-append_right, Contains-get_or}
use Rattle.std.proofs.lemmas.List.Sums.{fold-append}
use Rattle.packet_key.specs.declared.key.FlowKey.{FlowKey}
use Rattle.hash_rows.specs.declared.shape.Packet.{Packet}
use Rattle.heavy_keys.specs.Candidates.{AreFound, AreFoundUpTo, IsCandidate, in_order, key_of_place, candidate_key, no_packet, rank_by, ranks_of}
use Rattle.heavy_keys.specs.Buckets.{AreBuckets}
use Rattle.heavy_keys.specs.Ranks.{AreHeavy, Rank, flow_rank, rank_order}
use Rattle.heavy_keys.specs.Fingerprints.{fingerprint_of}
use Rattle.heavy_keys.specs.declared.candidates.Candidate.{Candidate}
use Rattle.heavy_keys.proofs.InOrder.{take_insert}
use Rattle.heavy_keys.proofs.Members.{contains_image, contains_split}
use Rattle.heavy_keys.proofs.RankLemmas.{heavy_low, heavy_none, heavy_ranked, heavy_seen, keys_more}

module _ (estimate_of : FlowKey → ℤ) (least : ℤ) (most : ℕ) (packets : List Packet) where
  -- before the first packet
  pub found_none : (lists : List (Vec Candidate)) (top : List Rank) → AreBuckets [] lists → top ≡ [] → AreFoundUpTo estimate_of least most packets 0 lists top
  found_none lists top none empty = record {
    others = [];
    theirs = λ key c. absurd (omega (arith, c.1));
    found = record {
      candidates = [];
      buckets = none;
      heavy = heavy_none estimate_of least [] refl;
      top_are = empty ∙ sym (take_all most [] (omega arith));
      each = λ k d below. absurd (omega arith);
    };
  }

  -- one more packet
  module _ (at : ℕ) (lists : List (Vec Candidate)) (top : List Rank) (below : at < length packets) where
    -- whose key isn't heavy
    pub found_low : (keys : List FlowKey) → (least ≤ℤ estimate_of (key_of_place packets at) → ⊥) → AreFound estimate_of least most packets keys lists top
        → AreFound estimate_of least most packets (keys ++ key_of_place packets at ∷ []) lists top
    found_low keys low h = record {
      candidates = h.candidates;
      buckets = h.buckets;
      heavy = heavy_low estimate_of least keys (ranks_of estimate_of packets h.candidates) (key_of_place packets at) h.heavy low;
      top_are = h.top_are;
      each = h.each;
    }

    -- that is a candidate
    pub found_more : (keys : List FlowKey) (estimate : ℤ) (hash : ℕ) (more : List (Vec Candidate)) (next : List Rank) → AreFound estimate_of least most packets keys lists top
        → estimate ≡ estimate_of (key_of_place packets at) → least ≤ℤ estimate → hash ≡ fingerprint_of (key_of_place packets at) → ((candidates : List Candidate) → AreBuckets candidates lists → AreBuckets (candidates ++ record { fingerprint = hash / 4294967296; place = at } ∷ []) more)
        → next ≡ take most (insert_key rank_order top (flow_rank estimate (key_of_place packets at))) → AreFound estimate_of least most packets (keys ++ key_of_place packets at ∷ []) more next
    found_more keys estimate hash more next h its high fingerprints put offered =
        let c : Candidate = record { fingerprint = hash / 4294967296; place = at } in
        let k : FlowKey = key_of_place packets at in
        let grown : List Candidate = h.candidates ++ c ∷ [] in
        let old : List Rank = ranks_of estimate_of packets h.candidates in
        let ranks : ranks_of estimate_of packets grown ≡ old ++ flow_rank estimate k ∷ [] =
        map-append (λ (x : Candidate). rank_by estimate_of (candidate_key packets x)) h.candidates (c ∷ []) ∙ ap (λ v. old ++ flow_rank v k ∷ []) (sym its) in
        let whole : in_order (ranks_of estimate_of packets grown) ≡ insert_key rank_order (in_order old) (flow_rank estimate k) = ap in_order ranks ∙ fold-append (insert_key rank_order) [] old (flow_rank estimate k ∷ []) in
        record {
          candidates = grown;
          buckets = put h.candidates h.buckets;
          heavy = heavy_ranked estimate_of least keys old k h.heavy estimate (ranks_of estimate_of packets grown) its high ranks;
          top_are = offered ∙ ap (λ l. take most (insert_key rank_order l (flow_rank estimate k))) h.top_are ∙ take_insert rank_order most (in_order old) (flow_rank estimate k) ∙ ap (take most) (sym whole);
          each = All-push (IsCandidate packets) h.candidates c h.each (record { place = below; fingerprint = ap (λ n. n / 4294967296) fingerprints });
        }

    further : map (λ (p : Packet). p.key) (take (at + 1) packets) ≡ map (λ (p : Packet). p.key) (take at packets) ++ key_of_place packets at ∷ []
    further = keys_more packets at no_packet below

    -- whose key one before has
    pub next_seen : Contains (map (λ (p : Packet). p.key) (take at packets)) (key_of_place packets at) → AreFoundUpTo estimate_of least most packets at lists top
        → AreFoundUpTo estimate_of least most packets (at + 1) lists top
    next_seen there h =
        let front : List FlowKey = map (λ (p : Packet). p.key) (take at packets) in
        record {
          others = h.others;
          theirs = h.theirs;
          found = record {
            candidates = h.found.candidates;
            buckets = h.found.buckets;
            heavy = subst (λ keys. AreHeavy estimate_of least keys (ranks_of estimate_of packets h.found.candidates)) (append_assoc h.others front (key_of_place packets at ∷ []) ∙ ap (λ l. h.others ++ l) (sym further))
                (heavy_seen estimate_of least (h.others ++ front) (ranks_of estimate_of packets h.found.candidates) (key_of_place packets at) h.found.heavy (Contains-append_right h.others front (key_of_place packets at) there));
            top_are = h.found.top_are;
            each = h.found.each;
          };
        }

    -- that is the next one, or one of the others
    module _ (more : List (Vec Candidate)) (next : List Rank) (step : (keys : List FlowKey) → AreFound estimate_of least most packets keys lists top
        → AreFound estimate_of least most packets (keys ++ key_of_place packets at ∷ []) more next) where
      pub next_found : AreFoundUpTo estimate_of least most packets at lists top → AreFoundUpTo estimate_of least most packets (at + 1) more next
      next_found h =
          let front : List FlowKey = map (λ (p : Packet). p.key) (take at packets) in
          record {
            others = h.others;
            theirs = h.theirs;
            found = subst (λ keys. AreFound estimate_of least most packets keys more next) (append_assoc h.others front (key_of_place packets at ∷ []) ∙ ap (λ l. h.others ++ l) (sym further)) (step (h.others ++ front) h.found);
          }

      pub other_found : AreFoundUpTo estimate_of least most packets 0 lists top → AreFoundUpTo estimate_of least most packets 0 more next
      other_found h = record {
        others = h.others ++ key_of_place packets at ∷ [];
        theirs = λ key c. elim (contains_split h.others (key_of_place packets at) key c) [
          | inl e ↦ subst (Contains (map (λ (p : Packet). p.key) packets)) e (contains_image (λ (p : Packet). p.key) packets (get_or packets at no_packet) (Contains-get_or packets at no_packet below))
          | inr d ↦ h.theirs key d
        ];
        found = subst (λ keys. AreFound estimate_of least most packets keys more next) (ap (λ l. l ++ key_of_place packets at ∷ []) (append-nil h.others) ∙ sym (append-nil (h.others ++ key_of_place packets at ∷ []))) (step (h.others ++ []) h.found);
      }

  -- when all packets have come
  pub found_all : (count : ℕ) (lists : List (Vec Candidate)) (top : List Rank) → length packets ≤ count → AreFoundUpTo estimate_of least most packets count lists top
      → AreFound estimate_of least most packets (map (λ p. p.key) packets) lists top
  found_all count lists top whole h =
      let keys : List FlowKey = map (λ (p : Packet). p.key) packets in
      let all : map (λ (p : Packet). p.key) (take count packets) ≡ keys = ap (map (λ (p : Packet). p.key)) (take_all count packets whole) in
      let heavy : AreHeavy estimate_of least (h.others ++ keys) (ranks_of estimate_of packets h.found.candidates) = subst (λ l. AreHeavy estimate_of least (h.others ++ l) (ranks_of estimate_of packets h.found.candidates)) all h.found.heavy in
      record {
        candidates = h.found.candidates;
        buckets = h.found.buckets;
        heavy = record {
          sound = λ rank c. let s = heavy.sound rank c in (elim (Contains-append_cases h.others keys rank.1 s.0) [ inl o ↦ h.theirs rank.1 o | inr k ↦ k ], s.1, s.2);
          whole = λ key c high. heavy.whole key (Contains-append_right h.others keys key c) high;
        };
        top_are = h.found.top_are;
        each = h.found.each;
      }
