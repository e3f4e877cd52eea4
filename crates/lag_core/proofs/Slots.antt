-- What stands at a place of a list.
use Rattle.std.proofs.Common.{◌≡◌, ◌≢◌, ℕ, zero, suc, List, [], ◌∷◌, ◌++◌, length, set, refl, ap, subst, arith, slice_get, Some, ◌⊎◌, inl, inr}
use Rattle.std.specs.Prelude.{All}
use Rattle.std.proofs.lemmas.Option.{get_or_from_slice_get, slice_get_within}

-- what stands at a place after one item is put
pub slot_set : {A : Type 0} (xs : List A) (i j : ℕ) (y x : A) → slice_get (set xs i y) j ≡ Some x → ((i ≡ j) × (y ≡ x)) ⊎ ((i ≢ j) × (slice_get xs j ≡ Some x))
slot_set [] i j y x at = cc
slot_set (z ∷ zs) zero zero y x at = inl (refl, cc)
slot_set (z ∷ zs) zero (suc j) y x at = inr (omega arith, at)
slot_set (z ∷ zs) (suc i) zero y x at = inr (omega arith, at)
slot_set (z ∷ zs) (suc i) (suc j) y x at = by (slot_set zs i j y x at)
  where
    by : ((i ≡ j) × (y ≡ x)) ⊎ ((i ≢ j) × (slice_get zs j ≡ Some x)) → ((suc i ≡ suc j) × (y ≡ x)) ⊎ ((suc i ≢ suc j) × (slice_get zs j ≡ Some x))
    by (inl h) = inl (ap suc h.0, h.1)
    by (inr h) = inr ((λ e. h.0 (omega (arith, e))), h.1)

-- what stands at a place of a list with one item more
pub slot_push : {A : Type 0} (xs : List A) (j : ℕ) (y x : A) → slice_get (xs ++ y ∷ []) j ≡ Some x → (slice_get xs j ≡ Some x) ⊎ ((length xs ≡ j) × (y ≡ x))
slot_push [] zero y x at = inr (refl, cc)
slot_push [] (suc j) y x at = absurd cc
slot_push (z ∷ zs) zero y x at = inl at
slot_push (z ∷ zs) (suc j) y x at = by (slot_push zs j y x at)
  where
    by : (slice_get zs j ≡ Some x) ⊎ ((length zs ≡ j) × (y ≡ x)) → (slice_get zs j ≡ Some x) ⊎ ((length (z ∷ zs) ≡ suc j) × (y ≡ x))
    by (inl h) = inl h
    by (inr h) = inr (ap suc h.0, h.1)

-- what holds of each item holds of the one that stands at a place
pub all_slot : {A : Type 0} (P : A → Type 0) (xs : List A) (i : ℕ) (x : A) → All P xs → slice_get xs i ≡ Some x → P x
all_slot P xs i x all at = subst P (get_or_from_slice_get xs i x x at) (all i x (slice_get_within xs i x at))
