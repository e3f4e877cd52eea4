-- The order of ranks is total, and ranks that tie in it are one.
use Rattle.std.proofs.Common.{◌≡◌, ℤ, Bool, true, ◌&&◌, List, [], Contains, ap₂, ◌∙◌, subst, sym, arith, refl, true≢false}
use Rattle.std.specs.Cmp.{IsEquivalence, IsTotalOrder, tied_then, then_total, on_total, back_total, on_equiv, and_equiv, int_cmp_total, int_eq_equiv}
use Rattle.std.specs.List.{dedup}
use Rattle.std.specs.List.Retain.{DiffersFromLast, IsFiltered}
use Rattle.std.specs.List.Sorted.{IsSorted, IsPermutation, IsStrictlySortedBy}
use Rattle.std.specs.Ordering.{int_cmp, int_eq, is_eq, eq_by_cmp}
use Rattle.std.specs.declared.cmp.Ordering.{Ordering}
use Rattle.std.specs.declared.cmp.Ordering.TheVariants.{Less, Equal, Greater}
use Rattle.std.proofs.lemmas.List.Filters.{dedup_is}
use Rattle.std.proofs.lemmas.List.Kept.{Contains-dedup, Contains-from_dedup, IsStrictlySortedBy-dedup}
use Rattle.std.proofs.lemmas.List.Sorted.{Contains-permutation, IsPermutation-sym}
use Rattle.packet_key.specs.contracts.key.FlowKeyEq.TheImpl.Laws.{laws-law}
use Rattle.packet_key.specs.contracts.key.FlowKeyOrd.TheImpl.Laws.{matches_eq-law, total-law}
use Rattle.push_history.specs.LiveHeavy.{same_key}
use Rattle.heavy_keys.specs.FinalHeavy.{key_cmp}
use Rattle.heavy_keys.specs.Ranks.{Rank, rank_order}
use Rattle.heavy_keys.proofs.KeyOrder.{exact_rank}

abbrev pub same_rank : Rank → Rank → Bool
same_rank a b = int_eq a.0.0 b.0.0 && same_key a.1 b.1

int_ties : (x y : ℤ) → int_eq x y ≡ is_eq (int_cmp y x)
int_ties x y = grind arith

pub ties : (a b : Rank) → same_rank a b ≡ eq_by_cmp rank_order a b
ties a b = ap₂ (λ x y. x && y) (int_ties a.0.0 b.0.0) (matches_eq-law a.1 b.1) ∙ tied_then (int_cmp b.0.0 a.0.0) (key_cmp a.1 b.1)

pub total : IsTotalOrder rank_order
total = then_total {R = λ a b. int_cmp b.0.0 a.0.0} {S = λ a b. key_cmp a.1 b.1} (on_total (λ (r : Rank). r.0.0) (back_total int_cmp_total)) (on_total (λ (r : Rank). r.1) total-law)

alike : IsEquivalence same_rank
alike = and_equiv (on_equiv (λ (r : Rank). r.0.0) int_eq_equiv) (on_equiv (λ (r : Rank). r.1) laws-law)

equal_from : (o : Ordering) → is_eq o ≡ true → o ≡ Equal
equal_from Less h = absurd (true≢false (sym h))
equal_from Equal h = refl
equal_from Greater h = absurd (true≢false (sym h))

one_rank : (a b : Rank) → same_rank a b ≡ true → a ≡ b
one_rank a b h = exact_rank a b (equal_from (rank_order a b) (sym (ties a b) ∙ h))

-- ranks that are sorted, and of which each is left once
module _ (old sorted new : List Rank) (permuted : IsPermutation old sorted) (kept : IsFiltered (DiffersFromLast same_rank) [] sorted new) where
  left : new ≡ dedup same_rank sorted
  left = dedup_is same_rank sorted new kept

  pub in_order : IsSorted rank_order sorted → IsStrictlySortedBy rank_order new
  in_order h = subst (IsStrictlySortedBy rank_order) (sym left) (IsStrictlySortedBy-dedup total ties sorted h)

  pub none_more : (rank : Rank) → Contains new rank → Contains old rank
  none_more rank c = Contains-permutation sorted old rank (IsPermutation-sym old sorted permuted)
      (Contains-from_dedup same_rank sorted rank (subst (λ (l : List Rank). Contains l rank) left c))

  pub none_less : (rank : Rank) → Contains old rank → Contains new rank
  none_less rank c = subst (λ (l : List Rank). Contains l rank) (sym left) (Contains-dedup alike one_rank sorted rank (Contains-permutation old sorted rank permuted c))
