-- How many different keys there are, counted in buckets.
use Rattle.std.proofs.Common.{◌≡◌, ℤ, ◌+◌, List, [], ◌∷◌, length, map, filter, inl, inr, refl, sym, ◌∙◌, ap, ap₂, subst, arith, suc, Bool, true, false, not, cond, ◌||◌, ◌&&◌, true≢false, Contains}
use Rattle.std.specs.Cmp.{IsTotalOrder, both_ways}
use Rattle.std.specs.List.{count_by}
use Rattle.std.specs.List.Sorted.{IsStrictlySortedBy}
use Rattle.std.specs.Ordering.{eq_by_cmp, int_eq}
use Rattle.std.specs.Set.{distinct_count, unique_keys, is_member}
use Rattle.std.specs.declared.cmp.Ordering.{Ordering}
use Rattle.std.proofs.lemmas.Cmp.{eq_by_cmp_equiv, int_eq_equiv}
use Rattle.std.proofs.lemmas.List.Sums.{sum_by-cons}
use Rattle.std.proofs.lemmas.Map.Keys.{IsDistinct-from_sorted}
use Rattle.std.proofs.lemmas.Map.Lookups.{CmpEqualImpliesEq}
use Rattle.std.proofs.lemmas.Map.Made.{length-from_keys}
use Rattle.std.proofs.lemmas.Map.Views.{Contains-from_any, list_any-from_Contains, tells_apart}
use Rattle.packet_key.specs.declared.key.FlowKey.{FlowKey}
use Rattle.push_history.specs.LiveHeavy.{same_key}
use Rattle.std.specs.List.{dedup}
use Rattle.std.specs.List.Retain.{DiffersFromLast, IsFiltered}
use Rattle.std.specs.List.Sorted.{IsSorted, IsPermutation}
use Rattle.std.proofs.lemmas.List.Filters.{dedup_is}
use Rattle.std.proofs.lemmas.List.Kept.{Contains-dedup, Contains-from_dedup, IsStrictlySortedBy-dedup}
use Rattle.std.proofs.lemmas.List.Sorted.{Contains-permutation, IsPermutation-sym}
use Rattle.packet_key.specs.contracts.key.FlowKeyEq.TheImpl.Laws.{laws-law}
use Rattle.packet_key.specs.contracts.key.FlowKeyOrd.TheImpl.Laws.{matches_eq-law, total-law}
use Rattle.heavy_keys.specs.FinalHeavy.{key_cmp}
use Rattle.heavy_keys.specs.Candidates.{rank_by}
use Rattle.heavy_keys.specs.Ranks.{rank_order}
use Rattle.heavy_keys.proofs.KeyOrder.{exact_key, one_key}
use Rattle.heavy_keys.proofs.Members.{Has}
use Rattle.heavy_keys.proofs.RankOrder.{ties}

-- a list in order with the keys of another has as many keys as there are different ones
pub count_sorted : {K : Type 0} {R : K → K → Ordering} (total : IsTotalOrder R) (exact : CmpEqualImpliesEq R) (new old : List K) → IsStrictlySortedBy R new
    → ((q : K) → Contains new q → Contains old q) → ((q : K) → Contains old q → Contains new q) → length new ≡ distinct_count (eq_by_cmp R) old
count_sorted {K} {R} total exact new old sorted less more =
    let laws = eq_by_cmp_equiv total in
    length-from_keys laws new old (IsDistinct-from_sorted R new sorted) (λ q.
    both_ways (is_member (eq_by_cmp R) new q) (is_member (eq_by_cmp R) old q)
    (λ h. list_any-from_Contains laws q old (less q (Contains-from_any (tells_apart exact) q new h)))
    (λ h. list_any-from_Contains laws q new (more q (Contains-from_any (tells_apart exact) q old h))))

-- ranks by their keys' estimates are equal where the keys are
module _ (estimate_of : FlowKey → ℤ) where
  equal_ranks : (a b : FlowKey) → eq_by_cmp rank_order (rank_by estimate_of a) (rank_by estimate_of b) ≡ same_key a b
  equal_ranks a b = sym (ties (rank_by estimate_of a) (rank_by estimate_of b)) ∙ by (same_key a b) refl
    where
      neither : (t : Bool) → (t && false) ≡ false
      neither true = refl
      neither false = refl

      by : (t : Bool) → same_key a b ≡ t → (int_eq (estimate_of a) (estimate_of b) && t) ≡ t
      by true e = ap (λ t. t && true) (subst (λ x. int_eq (estimate_of a) (estimate_of x) ≡ true) (one_key a b e) (int_eq_equiv.refl (estimate_of a)))
      by false e = neither (int_eq (estimate_of a) (estimate_of b))

  module _ {X : Type 0} (key : X → FlowKey) where
    equal_members : (x : X) (ys : List X) → is_member (eq_by_cmp rank_order) (map (λ y. rank_by estimate_of (key y)) ys) (rank_by estimate_of (key x)) ≡ is_member same_key (map key ys) (key x)
    equal_members x [] = refl
    equal_members x (y ∷ ys) = ap₂ (λ a b. a || b) (equal_ranks (key x) (key y)) (equal_members x ys)

    -- there are as many different ranks as keys
    pub count_ranks : (xs : List X) → distinct_count (eq_by_cmp rank_order) (map (λ x. rank_by estimate_of (key x)) xs) ≡ distinct_count same_key (map key xs)
    count_ranks [] = refl
    count_ranks (x ∷ xs) = by (is_member same_key (map key xs) (key x)) _ (equal_members x xs) (count_ranks xs)
      where
        by : (a b : Bool) → b ≡ a → distinct_count (eq_by_cmp rank_order) (map (λ x. rank_by estimate_of (key x)) xs) ≡ distinct_count same_key (map key xs)
            → length (cond b (unique_keys (eq_by_cmp rank_order) (map (λ x. rank_by estimate_of (key x)) xs)) (rank_by estimate_of (key x) ∷ unique_keys (eq_by_cmp rank_order) (map (λ x. rank_by estimate_of (key x)) xs)))
            ≡ length (cond a (unique_keys same_key (map key xs)) (key x ∷ unique_keys same_key (map key xs)))
        by true true e h = h
        by true false e h = absurd (true≢false (sym e))
        by false true e h = absurd (true≢false e)
        by false false e h = ap suc h

-- elements that are marked, among them all that have a key in common
module _ {X : Type 0} (key : X → FlowKey) (mark : X → Bool) where
  -- an element and one behind it that has the same key are both marked
  abbrev pub AreMarked : List X → Type 0
  AreMarked [] = Unit {0}
  AreMarked (x ∷ xs) = ((y : X) → Has xs y → key x ≡ key y → (mark x ≡ true) × (mark y ≡ true)) × AreMarked xs

  -- a key that marked elements alone have is found among the marked
  found_marked : (q : FlowKey) (xs : List X) → ((y : X) → Has xs y → q ≡ key y → mark y ≡ true) → is_member same_key (map key xs) q ≡ is_member same_key (map key (filter mark xs)) q
  found_marked q [] h = refl
  found_marked q (x ∷ xs) h = by (mark x) refl (found_marked q xs (λ y k e. h y (inr k) e))
    where
      differs : mark x ≡ false → (t : Bool) → same_key q (key x) ≡ t → t ≡ false
      differs never true e = absurd (true≢false (sym (h x (inl refl) (one_key q (key x) e)) ∙ never))
      differs never false e = refl

      by : (t : Bool) → mark x ≡ t → is_member same_key (map key xs) q ≡ is_member same_key (map key (filter mark xs)) q
          → is_member same_key (key x ∷ map key xs) q ≡ is_member same_key (map key (cond t (x ∷ filter mark xs) (filter mark xs))) q
      by true e k = ap (λ t. same_key q (key x) || t) k
      by false e k = ap (λ t. t || is_member same_key (map key xs) q) (differs e (same_key q (key x)) refl) ∙ k

  -- a key that no element has is not found
  not_found : (q : FlowKey) (xs : List X) → ((y : X) → Has xs y → q ≡ key y → ⊥) → is_member same_key (map key xs) q ≡ false
  not_found q [] h = refl
  not_found q (x ∷ xs) h = by (same_key q (key x)) refl (not_found q xs (λ y k e. h y (inr k) e))
    where
      by : (t : Bool) → same_key q (key x) ≡ t → is_member same_key (map key xs) q ≡ false → (t || is_member same_key (map key xs) q) ≡ false
      by true e k = absurd (h x (inl refl) (one_key q (key x) e))
      by false e k = k

  -- the unmarked ones count by themselves
  pub count_apart : (xs : List X) → AreMarked xs → distinct_count same_key (map key xs) ≡ count_by (λ x. not (mark x)) xs + distinct_count same_key (map key (filter mark xs))
  count_apart [] h = refl
  count_apart (x ∷ xs) h = by (mark x) refl (count_apart xs h.1)
    where
      among : List X → Bool
      among ys = is_member same_key (map key ys) (key x)

      marked : (t u : Bool) → t ≡ u → distinct_count same_key (map key xs) ≡ count_by (λ y. not (mark y)) xs + distinct_count same_key (map key (filter mark xs))
          → length (cond t (unique_keys same_key (map key xs)) (key x ∷ unique_keys same_key (map key xs)))
          ≡ count_by (λ y. not (mark y)) xs + length (cond u (unique_keys same_key (map key (filter mark xs))) (key x ∷ unique_keys same_key (map key (filter mark xs))))
      marked true true e k = k
      marked true false e k = absurd (true≢false e)
      marked false true e k = absurd (true≢false (sym e))
      marked false false e k = omega arith

      alone : (t : Bool) → t ≡ false → distinct_count same_key (map key xs) ≡ count_by (λ y. not (mark y)) xs + distinct_count same_key (map key (filter mark xs))
          → length (cond t (unique_keys same_key (map key xs)) (key x ∷ unique_keys same_key (map key xs)))
          ≡ 1 + count_by (λ y. not (mark y)) xs + distinct_count same_key (map key (filter mark xs))
      alone true e k = absurd (true≢false e)
      alone false e k = omega arith

      by : (t : Bool) → mark x ≡ t → distinct_count same_key (map key xs) ≡ count_by (λ y. not (mark y)) xs + distinct_count same_key (map key (filter mark xs))
          → distinct_count same_key (key x ∷ map key xs) ≡ count_by (λ y. not (mark y)) (x ∷ xs) + distinct_count same_key (map key (cond t (x ∷ filter mark xs) (filter mark xs)))
      by true e k = marked (is_member same_key (map key xs) (key x)) (is_member same_key (map key (filter mark xs)) (key x)) (found_marked (key x) xs (λ y has same. (h.0 y has same).1)) k
          ∙ ap (λ n. n + distinct_count same_key (key x ∷ map key (filter mark xs))) (sym (sum_by-cons (λ y. cond (not (mark y)) 1 0) x xs ∙ ap (λ t. cond (not t) 1 0 + count_by (λ y. not (mark y)) xs) e ∙ omega arith))
      by false e k = alone (is_member same_key (map key xs) (key x)) (not_found (key x) xs (λ y has same. true≢false (sym (h.0 y has same).0 ∙ e))) k
          ∙ ap (λ n. n + distinct_count same_key (map key (filter mark xs))) (sym (sum_by-cons (λ y. cond (not (mark y)) 1 0) x xs ∙ ap (λ t. cond (not t) 1 0 + count_by (λ y. not (mark y)) xs) e))

-- keys that were sorted, and of which each was left once
pub count_once : (old sorted new : List FlowKey) → IsPermutation old sorted → IsFiltered (DiffersFromLast same_key) [] sorted new → IsSorted key_cmp sorted → length new ≡ distinct_count same_key old
count_once old sorted new permuted kept h =
    let left : new ≡ dedup same_key sorted = dedup_is same_key sorted new kept in
    let alike : eq_by_cmp key_cmp ≡ same_key = λ i a b. sym (matches_eq-law a b) i in
    count_sorted total-law exact_key new old (subst (IsStrictlySortedBy key_cmp) (sym left) (IsStrictlySortedBy-dedup total-law matches_eq-law sorted h))
    (λ q c. Contains-permutation sorted old q (IsPermutation-sym old sorted permuted) (Contains-from_dedup same_key sorted q (subst (λ (l : List FlowKey). Contains l q) left c)))
    (λ q c. subst (λ (l : List FlowKey). Contains l q) (sym left) (Contains-dedup laws-law one_key sorted q (Contains-permutation old sorted q permuted c)))
    ∙ ap (λ e. distinct_count e old) alike
