-- Membership in a list, by recursion.
use Rattle.std.proofs.Common.{◌≡◌, ◌⊎◌, ℕ, ◌<◌, List, [], ◌∷◌, ◌++◌, length, map, get_or, Contains, inl, inr, refl, ap, arith, zero, suc, slice_get, Some}

abbrev pub Has : {X : Type 0} → List X → X → Type 0
Has [] x = ⊥
Has (y ∷ ys) x = (y ≡ x) ⊎ Has ys x

has_at : {X : Type 0} (xs : List X) (x : X) (k : ℕ) → k < length xs → get_or xs k x ≡ x → Has xs x
has_at [] x k below at = absurd (omega arith)
has_at (y ∷ ys) x zero below at = inl at
has_at (y ∷ ys) x (suc k) below at = inr (has_at ys x k (omega arith) at)

pub has_from : {X : Type 0} (xs : List X) (x : X) → Contains xs x → Has xs x
has_from xs x c = has_at xs x c.0 c.1 c.2

pub contains_from : {X : Type 0} (xs : List X) (x : X) → Has xs x → Contains xs x
contains_from [] x h = absurd h
contains_from (y ∷ ys) x (inl e) = (0, omega arith, e)
contains_from (y ∷ ys) x (inr h) = let c = contains_from ys x h in (suc c.0, omega arith, c.2)

-- the element at a place
pub contains_slot : {X : Type 0} (xs : List X) (i : ℕ) (x : X) → slice_get xs i ≡ Some x → Contains xs x
contains_slot xs i x at = contains_from xs x (has_slot xs i x at)
  where
    has_slot : {Y : Type 0} (ys : List Y) (j : ℕ) (y : Y) → slice_get ys j ≡ Some y → Has ys y
    has_slot [] j y e = cc
    has_slot (z ∷ zs) zero y e = inl cc
    has_slot (z ∷ zs) (suc j) y e = inr (has_slot zs j y e)

has_front : {X : Type 0} (xs ys : List X) (x : X) → Has xs x → Has (xs ++ ys) x
has_front [] ys x h = absurd h
has_front (z ∷ zs) ys x (inl e) = inl e
has_front (z ∷ zs) ys x (inr h) = inr (has_front zs ys x h)

has_last : {X : Type 0} (xs : List X) (x : X) → Has (xs ++ x ∷ []) x
has_last [] x = inl refl
has_last (z ∷ zs) x = inr (has_last zs x)

has_split : {X : Type 0} (xs : List X) (y x : X) → Has (xs ++ y ∷ []) x → (y ≡ x) ⊎ Has xs x
has_split [] y x (inl e) = inl e
has_split [] y x (inr h) = absurd h
has_split (z ∷ zs) y x (inl e) = inr (inl e)
has_split (z ∷ zs) y x (inr h) = by (has_split zs y x h)
  where
    by : (y ≡ x) ⊎ Has zs x → (y ≡ x) ⊎ Has (z ∷ zs) x
    by (inl e) = inl e
    by (inr k) = inr (inr k)

-- one more element
pub contains_front : {X : Type 0} (xs : List X) (y x : X) → Contains xs x → Contains (xs ++ y ∷ []) x
contains_front xs y x c = contains_from (xs ++ y ∷ []) x (has_front xs (y ∷ []) x (has_from xs x c))

pub contains_last : {X : Type 0} (xs : List X) (x : X) → Contains (xs ++ x ∷ []) x
contains_last xs x = contains_from (xs ++ x ∷ []) x (has_last xs x)

pub contains_split : {X : Type 0} (xs : List X) (y x : X) → Contains (xs ++ y ∷ []) x → (y ≡ x) ⊎ Contains xs x
contains_split xs y x c = by (has_split xs y x (has_from (xs ++ y ∷ []) x c))
  where
    by : (y ≡ x) ⊎ Has xs x → (y ≡ x) ⊎ Contains xs x
    by (inl e) = inl e
    by (inr h) = inr (contains_from xs x h)

-- what a list of images has
has_map : {X Y : Type 0} (f : X → Y) (xs : List X) (y : Y) → Has (map f xs) y → (x : X) × Has xs x × (f x ≡ y)
has_map f [] y h = absurd h
has_map f (z ∷ zs) y (inl e) = (z, inl refl, e)
has_map f (z ∷ zs) y (inr h) = let m = has_map f zs y h in (m.0, inr m.1, m.2)

has_image : {X Y : Type 0} (f : X → Y) (xs : List X) (x : X) → Has xs x → Has (map f xs) (f x)
has_image f [] x h = absurd h
has_image f (z ∷ zs) x (inl e) = inl (ap f e)
has_image f (z ∷ zs) x (inr h) = inr (has_image f zs x h)

pub contains_map : {X Y : Type 0} (f : X → Y) (xs : List X) (y : Y) → Contains (map f xs) y → (x : X) × Contains xs x × (f x ≡ y)
contains_map f xs y c = let m = has_map f xs y (has_from (map f xs) y c) in (m.0, contains_from xs m.0 m.1, m.2)

pub contains_image : {X Y : Type 0} (f : X → Y) (xs : List X) (x : X) → Contains xs x → Contains (map f xs) (f x)
contains_image f xs x c = contains_from (map f xs) (f x) (has_image f xs x (has_from xs x c))
