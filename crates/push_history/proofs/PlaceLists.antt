-- Lists by their places.
use Rattle.std.proofs.Common.{◌≡◌, ◌<◌, ℕ, zero, suc, ◌+◌, ◌-◌, ◌*◌, ℤ, List, [], ◌∷◌, ◌++◌, length, get_or, take, drop, Some, refl, sym, ap, ap₂, ◌∙◌, subst, arith, inl, inr}
use Rattle.std.specs.Prelude.{All, map, slice_get}
use Rattle.std.specs.List.{flat_map, range_with_len, zip}
use Rattle.std.proofs.lemmas.Bool.{cases_lt}
use Rattle.std.proofs.lemmas.List.{get_or-map, get_or-take, length-drop, length-take, map-append, take-append-drop}
use Rattle.std.proofs.lemmas.Option.{get_or_from_slice_get, slice_get-get_or, slice_get_within}

-- what f makes of each, by its place
pub map_from : {X Y : Type 0} (f : X → Y) (g : ℕ → Y) (xs : List X) (a n : ℕ) → length xs ≡ n → ((i : ℕ) (d : X) → i < n → f (get_or xs i d) ≡ g (a + i)) → map f xs ≡ map g (range_with_len a n)
map_from f g [] a zero len each = refl
map_from f g [] a (suc n) len each = absurd (omega (arith, len))
map_from f g (x ∷ xs) a zero len each = absurd (omega (arith, len))
map_from f g (x ∷ xs) a (suc n) len each =
    let here : a + 0 ≡ a = omega arith in
    ap₂ (λ y t. y ∷ t) (each 0 x (omega arith) ∙ ap g here)
    (map_from f g xs (a + 1) n (omega (arith, len)) (λ i d lt. let there : a + suc i ≡ a + 1 + i = omega arith in each (suc i) d (omega (arith, lt)) ∙ ap g there))

same_item : {X : Type 0} (xs : List X) (i : ℕ) (d e : X) → i < length xs → get_or xs i d ≡ get_or xs i e
same_item xs i d e lt = sym (get_or_from_slice_get xs i (get_or xs i d) e (slice_get-get_or xs i d lt))

-- where past the end there is this one
pub map_at : {X Y : Type 0} (f : X → Y) (g : ℕ → Y) (xs : List X) (d : X) (n : ℕ) → length xs ≡ n → ((i : ℕ) → i < n → f (get_or xs i d) ≡ g i) → map f xs ≡ map g (range_with_len 0 n)
map_at f g xs d n len each = map_from f g xs 0 n len (λ i e lt.
    let at : i ≡ 0 + i = omega arith in
    ap f (same_item xs i e d (omega (arith, lt, len))) ∙ each i lt ∙ ap g at)

-- the same, of pairs with numbers of places
pub map_zip_from : {X Y Z : Type 0} (f : X × Y → Z) (g : ℕ → Y) (k : ℕ → Z) (xs : List X) (a n : ℕ) → length xs ≡ n → ((i : ℕ) (d : X) → i < n → f (get_or xs i d, g (a + i)) ≡ k (a + i))
    → map f (zip xs (map g (range_with_len a n))) ≡ map k (range_with_len a n)
map_zip_from f g k [] a zero len each = refl
map_zip_from f g k [] a (suc n) len each = absurd (omega (arith, len))
map_zip_from f g k (x ∷ xs) a zero len each = absurd (omega (arith, len))
map_zip_from f g k (x ∷ xs) a (suc n) len each =
    let here : a + 0 ≡ a = omega arith in
    ap₂ (λ y t. y ∷ t) (subst (λ (b : ℕ). f (x, g b) ≡ k b) here (each 0 x (omega arith)))
    (map_zip_from f g k xs (a + 1) n (omega (arith, len))
    (λ i d lt. let there : a + suc i ≡ a + 1 + i = omega arith in subst (λ (b : ℕ). f (get_or xs i d, g b) ≡ k b) there (each (suc i) d (omega (arith, lt)))))

slice_get_drop : {X : Type 0} (m i : ℕ) (xs : List X) → slice_get (drop m xs) i ≡ slice_get xs (m + i)
slice_get_drop zero i xs = ap (slice_get xs) (omega arith)
slice_get_drop (suc m) i [] = refl
slice_get_drop (suc m) i (x ∷ xs) =
    let next : suc (m + i) ≡ suc m + i = omega arith in
    slice_get_drop m i xs ∙ ap (slice_get (x ∷ xs)) next

-- what holds of the item in column k of row q
pub map_grid : {X Y : Type 0} (f : X → Y) (g : ℕ → ℕ → Y) (m a n : ℕ) (xs : List X) → length xs ≡ n * m
    → ((q k : ℕ) (x : X) → q < n → k < m → slice_get xs (q * m + k) ≡ Some x → f x ≡ g (a + q) k)
    → map f xs ≡ flat_map (λ q. map (g q) (range_with_len 0 m)) (range_with_len a n)
map_grid f g m a zero [] len each = refl
map_grid f g m a zero (x ∷ xs) len each = absurd (omega (arith, len))
map_grid {X} f g m a (suc n) xs len each =
    let next : suc n ≡ n + 1 = omega arith in
    let times : suc n * m ≡ m + n * m = ap (λ (k : ℕ). k * m) next ∙ omega arith in
    let here : a + 0 ≡ a = omega arith in
    ap (map f) (sym (take-append-drop m xs)) ∙ map-append f (take m xs) (drop m xs)
    ∙ ap₂ (λ s t. s ++ t)
    (map_from f (g a) (take m xs) 0 m (omega (arith, length-take m xs, len, times))
    (λ i d lt.
    let inside : i < length xs = omega (arith, lt, len, times) in
    let at : 0 * m + i ≡ i = omega arith in
    let same : 0 + i ≡ i = omega arith in
    ap f (get_or-take m xs i d lt)
    ∙ each 0 i (get_or xs i d) (omega arith) lt (ap (slice_get xs) at ∙ slice_get-get_or xs i d inside)
    ∙ ap (λ (b : ℕ). g b i) here ∙ ap (g a) (sym same)))
    (map_grid f g m (a + 1) n (drop m xs) (omega (arith, length-drop m xs, len, times))
    (λ q k x low high is.
    let there : a + suc q ≡ a + 1 + q = omega arith in
    let row : suc q ≡ q + 1 = omega arith in
    let at : suc q * m + k ≡ m + (q * m + k) = ap (λ (b : ℕ). b * m + k) row ∙ omega arith in
    each (suc q) k x (omega (arith, low)) high (ap (slice_get xs) at ∙ sym (slice_get_drop m (q * m + k) xs) ∙ is) ∙ ap (λ (b : ℕ). g b k) there))

-- the row and the column of a place
pub grid_at : (n m i : ℕ) → i < n * m → (q : ℕ) × (k : ℕ) × (q < n) × (k < m) × (i ≡ q * m + k)
grid_at zero m i lt = absurd (omega (arith, lt))
grid_at (suc n) m i lt = elim (cases_lt i m) [
  | inl first ↦ (let at : i ≡ 0 * m + i = omega arith in (0, i, omega arith, first, at))
  | inr le ↦
      let next : suc n ≡ n + 1 = omega arith in
      let times : suc n * m ≡ m + n * m = ap (λ (k : ℕ). k * m) next ∙ omega arith in
      let rest = grid_at n m (i - m) (omega (arith, lt, le, times)) in
      let row : suc rest.0 ≡ rest.0 + 1 = omega arith in
      let at : suc rest.0 * m + rest.1 ≡ m + (rest.0 * m + rest.1) = ap (λ (b : ℕ). b * m + rest.1) row ∙ omega arith in
      (suc rest.0, rest.1, omega (arith, rest.2), rest.3, omega (arith, le, rest.4, at))
]

pub all_grid : {X : Type 0} (P : X → Type 0) (n m : ℕ) (xs : List X) → length xs ≡ n * m
    → ((q k : ℕ) (x : X) → q < n → k < m → slice_get xs (q * m + k) ≡ Some x → P x) → All P xs
all_grid P n m xs len each = λ i d lt.
    let at = grid_at n m i (omega (arith, lt, len)) in
    each at.0 at.1 (get_or xs i d) at.2 at.3 (ap (slice_get xs) (sym at.4) ∙ slice_get-get_or xs i d lt)

pub range_split : (a n m : ℕ) → range_with_len a n ++ range_with_len (a + n) m ≡ range_with_len a (n + m)
range_split a zero m = let here : a + 0 ≡ a = omega arith in let all : m ≡ 0 + m = omega arith in ap (λ (b : ℕ). range_with_len b m) here ∙ ap (range_with_len a) all
range_split a (suc n) m =
    let there : a + suc n ≡ a + 1 + n = omega arith in
    let all : suc (n + m) ≡ suc n + m = omega arith in
    ap (λ t. a ∷ t) (ap (λ (b : ℕ). range_with_len (a + 1) n ++ range_with_len b m) there ∙ range_split (a + 1) n m) ∙ ap (range_with_len a) all

-- the number at a place of a list that f makes
pub made_at : {X : Type 0} (f : X → ℤ) (xs : List X) (made : List ℤ) (i : ℕ) (x : X) (z : ℤ) → made ≡ map f xs → slice_get xs i ≡ Some x → slice_get made i ≡ Some z → f x ≡ z
made_at f xs made i x z all at is =
    sym (ap f (get_or_from_slice_get xs i x x at)) ∙ sym (get_or-map f xs i x z (slice_get_within xs i x at)) ∙ ap (λ l. get_or l i z) (sym all) ∙ get_or_from_slice_get made i z z is
