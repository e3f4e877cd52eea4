-- Keys put in order one by one, and the first of them.
use Rattle.std.proofs.Common.{◌≡◌, ◌⊎◌, ℕ, List, [], ◌∷◌, length, take, inl, inr, refl, sym, ◌∙◌, ap, subst, arith, zero, suc, false, true≢false, Contains}
use Rattle.std.specs.BTreeSet.{insert_key}
use Rattle.std.specs.Cmp.{IsTotalOrder}
use Rattle.std.specs.List.{All, AllByRecursion}
use Rattle.std.specs.List.Sorted.{IsStrictlySortedBy}
use Rattle.std.specs.Ordering.{match_ordering, ordering_reverse, is_lt, is_gt}
use Rattle.std.specs.Prelude.{fold}
use Rattle.std.specs.declared.cmp.Ordering.{Ordering}
use Rattle.std.specs.declared.cmp.Ordering.TheVariants.{Less, Equal, Greater}
use Rattle.std.proofs.lemmas.Cmp.{upto}
use Rattle.std.proofs.lemmas.List.{take-take, take_all}
use Rattle.std.proofs.lemmas.List.Elements.{All-head, All-tail, All-weaker}
use Rattle.std.proofs.lemmas.Map.Lookups.{CmpEqualImpliesEq}
use Rattle.heavy_keys.proofs.Members.{Has, has_from, contains_from}

module _ {K : Type 0} (cmp : K → K → Ordering) where
  take_cons : (m : ℕ) (y : K) (ys : List K) → take m (y ∷ take m ys) ≡ take m (y ∷ ys)
  take_cons zero y ys = refl
  take_cons (suc m) y ys = ap (λ l. y ∷ l) (take-take m (suc m) ys (omega arith))

  -- of a key put among the first m, and among all, the first m are the same
  pub take_insert : (m : ℕ) (L : List K) (x : K) → take m (insert_key cmp (take m L) x) ≡ take m (insert_key cmp L x)
  take_insert zero L x = refl
  take_insert (suc m) [] x = refl
  take_insert (suc m) (y ∷ ys) x = by (cmp x y) (take_insert m ys x)
    where
      by : (o : Ordering) → take m (insert_key cmp (take m ys) x) ≡ take m (insert_key cmp ys x)
          → take (suc m) (match_ordering o (x ∷ y ∷ take m ys) (y ∷ take m ys) (y ∷ insert_key cmp (take m ys) x)) ≡ take (suc m) (match_ordering o (x ∷ y ∷ ys) (y ∷ ys) (y ∷ insert_key cmp ys x))
      by Less h = ap (λ l. x ∷ l) (take_cons m y ys)
      by Equal h = ap (λ l. y ∷ l) (take-take m m ys (omega arith))
      by Greater h = ap (λ l. y ∷ l) h

  -- a key that is before none of them leaves them the first
  pub late : (L : List K) (x : K) → All (λ q. is_lt (cmp x q) ≡ false) L → take (length L) (insert_key cmp L x) ≡ L
  late [] x all = refl
  late (y ∷ L) x all = by (cmp x y) (All-head (λ q. is_lt (cmp x q) ≡ false) y L all) (late L x (All-tail (λ q. is_lt (cmp x q) ≡ false) y L all))
    where
      by : (o : Ordering) → is_lt o ≡ false → take (length L) (insert_key cmp L x) ≡ L → take (suc (length L)) (match_ordering o (x ∷ y ∷ L) (y ∷ L) (y ∷ insert_key cmp L x)) ≡ y ∷ L
      by Less never h = absurd (true≢false never)
      by Equal never h = ap (λ l. y ∷ l) (take_all (length L) L (omega arith))
      by Greater never h = ap (λ l. y ∷ l) h

  all_insert : (P : K → Type 0) (L : List K) (x : K) → AllByRecursion P L → P x → AllByRecursion P (insert_key cmp L x)
  all_insert P [] x all p = (p, tt)
  all_insert P (y ∷ L) x all p = by (cmp x y) (all_insert P L x all.1 p)
    where
      by : (o : Ordering) → AllByRecursion P (insert_key cmp L x) → AllByRecursion P (match_ordering o (x ∷ y ∷ L) (y ∷ L) (y ∷ insert_key cmp L x))
      by Less h = (p, all)
      by Equal h = all
      by Greater h = (all.0, h)

  has_insert : (L : List K) (x q : K) → Has (insert_key cmp L x) q → (x ≡ q) ⊎ Has L q
  has_insert [] x q h = h
  has_insert (y ∷ L) x q h = by (cmp x y) (has_insert L x q) h
    where
      later : (x ≡ q) ⊎ Has L q → (x ≡ q) ⊎ Has (y ∷ L) q
      later (inl e) = inl e
      later (inr k) = inr (inr k)

      by : (o : Ordering) → (Has (insert_key cmp L x) q → (x ≡ q) ⊎ Has L q) → Has (match_ordering o (x ∷ y ∷ L) (y ∷ L) (y ∷ insert_key cmp L x)) q → (x ≡ q) ⊎ Has (y ∷ L) q
      by Less f h = h
      by Equal f h = inr h
      by Greater f (inl e) = inr (inl e)
      by Greater f (inr k) = later (f k)

  insert_has : (L : List K) (x q : K) → Has L q → Has (insert_key cmp L x) q
  insert_has [] x q h = inr h
  insert_has (y ∷ L) x q h = by (cmp x y) (insert_has L x q) h
    where
      by : (o : Ordering) → (Has L q → Has (insert_key cmp L x) q) → Has (y ∷ L) q → Has (match_ordering o (x ∷ y ∷ L) (y ∷ L) (y ∷ insert_key cmp L x)) q
      by Less f h = inr h
      by Equal f h = h
      by Greater f (inl e) = inl e
      by Greater f (inr k) = inr (f k)

  has_fold : (R acc : List K) (q : K) → Has (fold (insert_key cmp) acc R) q → Has acc q ⊎ Has R q
  has_fold [] acc q h = inl h
  has_fold (r ∷ R) acc q h = by (has_fold R (insert_key cmp acc r) q h)
    where
      put : (r ≡ q) ⊎ Has acc q → Has acc q ⊎ Has (r ∷ R) q
      put (inl e) = inr (inl e)
      put (inr k) = inl k

      by : Has (insert_key cmp acc r) q ⊎ Has R q → Has acc q ⊎ Has (r ∷ R) q
      by (inl k) = put (has_insert acc r q k)
      by (inr k) = inr (inr k)

  fold_keeps : (R acc : List K) (q : K) → Has acc q → Has (fold (insert_key cmp) acc R) q
  fold_keeps [] acc q h = h
  fold_keeps (r ∷ R) acc q h = fold_keeps R (insert_key cmp acc r) q (insert_has acc r q h)

  -- no key but those that were put
  pub none_else : (R : List K) (q : K) → Contains (fold (insert_key cmp) [] R) q → Contains R q
  none_else R q c = by (has_fold R [] q (has_from (fold (insert_key cmp) [] R) q c))
    where
      by : Has [] q ⊎ Has R q → Contains R q
      by (inl none) = absurd none
      by (inr k) = contains_from R q k

  module _ (exact : CmpEqualImpliesEq cmp) where
    insert_itself : (L : List K) (x : K) → Has (insert_key cmp L x) x
    insert_itself [] x = inl refl
    insert_itself (y ∷ L) x = by (cmp x y) refl (insert_itself L x)
      where
        by : (o : Ordering) → cmp x y ≡ o → Has (insert_key cmp L x) x → Has (match_ordering o (x ∷ y ∷ L) (y ∷ L) (y ∷ insert_key cmp L x)) x
        by Less e h = inl refl
        by Equal e h = inl (sym (exact x y e))
        by Greater e h = inr h

    fold_has : (R acc : List K) (q : K) → Has R q → Has (fold (insert_key cmp) acc R) q
    fold_has [] acc q h = absurd h
    fold_has (r ∷ R) acc q (inl e) = fold_keeps R (insert_key cmp acc r) q (subst (Has (insert_key cmp acc r)) e (insert_itself acc r))
    fold_has (r ∷ R) acc q (inr k) = fold_has R (insert_key cmp acc r) q k

    -- each key that was put
    pub each_put : (R : List K) (q : K) → Contains R q → Contains (fold (insert_key cmp) [] R) q
    each_put R q c = contains_from (fold (insert_key cmp) [] R) q (fold_has R [] q (has_from R q c))

  module _ (total : IsTotalOrder cmp) where
    lt_back : (x y : K) → is_lt (cmp x y) ≡ is_gt (cmp y x)
    lt_back x y = ap is_lt (total.antisymm x y) ∙ by (cmp y x)
      where
        by : (o : Ordering) → is_lt (ordering_reverse o) ≡ is_gt o
        by Less = refl
        by Equal = refl
        by Greater = refl

    -- a key that is not before the last is before none
    pub before_none : (L : List K) (last x : K) → All (λ q. is_lt (cmp last q) ≡ false) L → is_lt (cmp x last) ≡ false → All (λ q. is_lt (cmp x q) ≡ false) L
    before_none L last x all never = All-weaker (λ q. is_lt (cmp last q) ≡ false) (λ q. is_lt (cmp x q) ≡ false)
        (λ q h. lt_back x q ∙ upto total q last x (sym (lt_back last q) ∙ h) (sym (lt_back x last) ∙ never)) L all

    after : (x y : K) → cmp x y ≡ Greater → cmp y x ≡ Less
    after x y e = total.antisymm y x ∙ ap ordering_reverse e

    before_rest : (L : List K) (x y : K) → cmp x y ≡ Less → AllByRecursion (λ q. cmp y q ≡ Less) L → AllByRecursion (λ q. cmp x q ≡ Less) L
    before_rest [] x y e all = tt
    before_rest (z ∷ L) x y e all = (total.trans x y z e all.0, before_rest L x y e all.1)

    sorted_insert : (L : List K) (x : K) → IsStrictlySortedBy cmp L → IsStrictlySortedBy cmp (insert_key cmp L x)
    unfolding IsStrictlySortedBy
    sorted_insert [] x s = (tt, tt)
    sorted_insert (y ∷ L) x s = by (cmp x y) refl (sorted_insert L x s.1)
      where
        by : (o : Ordering) → cmp x y ≡ o → IsStrictlySortedBy cmp (insert_key cmp L x) → IsStrictlySortedBy cmp (match_ordering o (x ∷ y ∷ L) (y ∷ L) (y ∷ insert_key cmp L x))
        by Less e h = ((e, before_rest L x y e s.0), s)
        by Equal e h = s
        by Greater e h = (all_insert (λ q. cmp y q ≡ Less) L x s.0 (after x y e), h)

    sorted_fold : (R acc : List K) → IsStrictlySortedBy cmp acc → IsStrictlySortedBy cmp (fold (insert_key cmp) acc R)
    sorted_fold [] acc s = s
    sorted_fold (r ∷ R) acc s = sorted_fold R (insert_key cmp acc r) (sorted_insert acc r s)

    pub sorted_in_order : (R : List K) → IsStrictlySortedBy cmp (fold (insert_key cmp) [] R)
    unfolding IsStrictlySortedBy
    sorted_in_order R = sorted_fold R [] tt
