-- A set of ranks as keys are put into it.
use Rattle.std.proofs.Common.{◌≡◌, ℕ, ℤ, ◌<◌, ◌≤ℤ◌, List, [], ◌∷◌, ◌++◌, length, map, get_or, Contains, inl, inr, sym, ◌∙◌, ap, subst, arith}
use Rattle.std.specs.List.Sorted.{IsStrictlySortedBy}
use Rattle.packet_key.specs.declared.key.FlowKey.{FlowKey}
use Rattle.hash_rows.specs.declared.shape.Flow.{Flow}
use Rattle.hash_rows.specs.declared.shape.Packet.{Packet}
use Rattle.std.proofs.Common.{take, ◌+◌}
use Rattle.heavy_keys.specs.FinalHeavy.{IsBefore, IsFinalHeavy}
use Rattle.heavy_keys.specs.Ranks.{Rank, flow_rank, rank_order, flow_at_rank, AreHeavy}
use Rattle.std.proofs.lemmas.Map.Keys.{Less-from_sorted}
use Rattle.std.proofs.Math.ListN.{get_or-map}
use Rattle.std.proofs.lemmas.List.{length-map, take_more, map-append}
use Rattle.heavy_keys.proofs.KeyOrder.{before_rank}
use Rattle.heavy_keys.proofs.Members.{has_from, contains_front, contains_last, contains_split, contains_map, contains_image}

-- one more key
module _ (estimate_of : FlowKey → ℤ) (least : ℤ) (keys : List FlowKey) (ranks : List Rank) (k : FlowKey) (h : AreHeavy estimate_of least keys ranks) where
  sound_more : (rank : Rank) → Contains ranks rank → Contains (keys ++ k ∷ []) rank.1 × (rank.0.0 ≡ estimate_of rank.1) × (least ≤ℤ rank.0.0)
  sound_more rank c = let s = h.sound rank c in (contains_front keys k rank.1 s.0, s.1, s.2)

  -- that is one of those before
  pub heavy_seen : Contains keys k → AreHeavy estimate_of least (keys ++ k ∷ []) ranks
  heavy_seen there = record {
    sound = sound_more;
    whole = λ key c high. elim (contains_split keys k key c) [
      | inl e ↦ h.whole key (subst (Contains keys) e there) high
      | inr d ↦ h.whole key d high
    ];
  }

  -- that is not heavy
  pub heavy_low : (least ≤ℤ estimate_of k → ⊥) → AreHeavy estimate_of least (keys ++ k ∷ []) ranks
  heavy_low low = record {
    sound = sound_more;
    whole = λ key c high. elim (contains_split keys k key c) [
      | inl e ↦ absurd (low (subst (λ x. least ≤ℤ estimate_of x) (sym e) high))
      | inr d ↦ h.whole key d high
    ];
  }

  -- that is heavy, and is added
  pub heavy_ranked : (estimate : ℤ) (more : List Rank) → estimate ≡ estimate_of k → least ≤ℤ estimate → more ≡ ranks ++ flow_rank estimate k ∷ []
      → AreHeavy estimate_of least (keys ++ k ∷ []) more
  heavy_ranked estimate more its high put = record {
    sound = λ rank c. elim (contains_split ranks (flow_rank estimate k) rank (subst (λ (l : List Rank). Contains l rank) put c)) [
      | inl e ↦ subst (λ (x : Rank). Contains (keys ++ k ∷ []) x.1 × (x.0.0 ≡ estimate_of x.1) × (least ≤ℤ x.0.0)) e (contains_last keys k, its, high)
      | inr d ↦ sound_more rank d
    ];
    whole = λ key c up. subst (λ (l : List Rank). Contains l (flow_rank (estimate_of key) key)) (sym put) (elim (contains_split keys k key c) [
      | inl e ↦ subst (λ (x : FlowKey). Contains (ranks ++ flow_rank estimate k ∷ []) (flow_rank (estimate_of x) x)) e
          (subst (λ (v : ℤ). Contains (ranks ++ flow_rank estimate k ∷ []) (flow_rank v k)) its (contains_last ranks (flow_rank estimate k)))
      | inr d ↦ contains_front ranks (flow_rank estimate k) (flow_rank (estimate_of key) key) (h.whole key d up)
    ]);
  }

-- the same ranks in another order
pub heavy_alike : (estimate_of : FlowKey → ℤ) (least : ℤ) (keys : List FlowKey) (old new : List Rank) → ((rank : Rank) → Contains new rank → Contains old rank)
    → ((rank : Rank) → Contains old rank → Contains new rank) → AreHeavy estimate_of least keys old → AreHeavy estimate_of least keys new
heavy_alike estimate_of least keys old new less more h = record {
  sound = λ rank c. h.sound rank (less rank c);
  whole = λ key c high. more (flow_rank (estimate_of key) key) (h.whole key c high);
}

-- no key, and so no rank
pub heavy_none : (estimate_of : FlowKey → ℤ) (least : ℤ) (ranks : List Rank) → ranks ≡ [] → AreHeavy estimate_of least [] ranks
heavy_none estimate_of least ranks none = record {
  sound = λ rank c. absurd (has_from [] rank (subst (λ (l : List Rank). Contains l rank) none c));
  whole = λ key c high. absurd (has_from [] key c);
}

-- the flows of the ranks, in order
pub final_flows : (estimate_of : FlowKey → ℤ) (least : ℤ) (keys : List FlowKey) (ranks : List Rank) (flows : List Flow) → flows ≡ map flow_at_rank ranks
    → IsStrictlySortedBy rank_order ranks → AreHeavy estimate_of least keys ranks → IsFinalHeavy estimate_of least keys flows
final_flows estimate_of least keys ranks flows are sorted h = subst (IsFinalHeavy estimate_of least keys) (sym are) (record {
  sorted = λ i j d lt below.
      let inside : j < length ranks = omega (arith, length-map ranks flow_at_rank) in
      let r : Rank = flow_rank d.estimate d.key in
      let less = Less-from_sorted rank_order ranks i j r sorted lt inside in
      subst (λ (x : Flow). IsBefore x (get_or (map flow_at_rank ranks) j d)) (sym (get_or-map flow_at_rank ranks i r))
      (subst (λ (x : Flow). IsBefore (flow_at_rank (get_or ranks i r)) x) (sym (get_or-map flow_at_rank ranks j r)) (before_rank (get_or ranks i r) (get_or ranks j r) less));
  sound = λ flow c. let m = contains_map flow_at_rank ranks flow c in
      subst (λ (x : Flow). Contains keys x.key × (x.estimate ≡ estimate_of x.key) × (least ≤ℤ x.estimate)) m.2 (h.sound m.0 m.1);
  whole = λ key c high. contains_image flow_at_rank ranks (flow_rank (estimate_of key) key) (h.whole key c high);
})

-- the keys of the packets, with one more packet
pub keys_more : (packets : List Packet) (i : ℕ) (d : Packet) → i < length packets → map (λ p. p.key) (take (i + 1) packets) ≡ map (λ p. p.key) (take i packets) ++ (get_or packets i d).key ∷ []
keys_more packets i d below = ap (map (λ p. p.key)) (take_more packets i d below) ∙ map-append (λ p. p.key) (take i packets) (get_or packets i d ∷ [])
