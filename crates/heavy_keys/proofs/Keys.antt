-- Lists of keys that differ, and maps to which a key is added.
use Rattle.std.proofs.Common.{◌≡◌, ℕ, ◌<◌, ◌+◌, Bool, false, ◌||◌, List, [], ◌∷◌, ◌++◌, length, take, get_or, slice_get, Option, Some, None, Result, Ok, Err, is_some, IsOk, OnOk, refl, sym, ◌∙◌, ap, ap₂, true≢false, arith, zero, suc}
use Rattle.std.specs.List.{IsDistinct, list_any}
use Rattle.std.specs.Map.{keys_of}
use Rattle.std.proofs.Common.{subst}
use Rattle.std.proofs.lemmas.Map.Entries.{length-keys_of}
use Rattle.std.proofs.lemmas.List.{take_more}
use Rattle.std.proofs.lemmas.Map.Keys.{apart_from_distinct, IsDistinct-tail}

-- a key of a list of keys that differ is not among those before it
pub absent_before : {K : Type 0} (e : K → K → Bool) (ks : List K) (i : ℕ) (d : K) → IsDistinct e ks → i < length ks → list_any (λ k. e k (get_or ks i d)) (take i ks) ≡ false
absent_before e [] i d distinct below = absurd (omega arith)
absent_before e (k ∷ ks) zero d distinct below = refl
absent_before e (k ∷ ks) (suc i) d distinct below =
    ap₂ (λ a b. a || b) (apart_from_distinct e (k ∷ ks) 0 (suc i) d distinct (omega arith) below) (absent_before e ks i d (IsDistinct-tail e k ks distinct) (omega arith))

-- the key of an entry
pub key_at : {K X : Type 0} (es : List (K × X)) (i : ℕ) (k : K) (v : X) → slice_get es i ≡ Some (k, v) → get_or (keys_of es) i k ≡ k
key_at [] i k v at = refl
key_at (e ∷ es) zero k v at = ap (λ (o : Option _). elim o [ None ↦ k | Some p ↦ p.0 ]) at
key_at (e ∷ es) (suc i) k v at = key_at es i k v at

-- a look-up that finds nothing
pub nothing_found : {X : Type 0} (o : Option X) → is_some o ≡ false → o ≡ None
nothing_found None h = refl
nothing_found (Some x) h = absurd (true≢false h)

-- what holds of a result that is there
pub from_ok : {T E P : Type 0} (r : Result T E) → IsOk r → OnOk r P → P
from_ok (Ok x) is h = h
from_ok (Err e) is h = absurd (true≢false (sym is))

-- a key added last
pub keys_pushed : {K X : Type 0} (es : List (K × X)) (k : K) (v : X) → keys_of (es ++ (k, v) ∷ []) ≡ keys_of es ++ k ∷ []
keys_pushed [] k v = refl
keys_pushed (e ∷ es) k v = ap (λ ks. e.0 ∷ ks) (keys_pushed es k v)

module _ {K X : Type 0} (es : List (K × X)) (front : List K) (i : ℕ) (k : K) (v : X) (at : Some (k, v) ≡ slice_get es i) (below : i < length es)
    (is_front : front ≡ take i (keys_of es)) where
  -- the key of an entry is not among those of the entries before it
  pub absent_at : (e : K → K → Bool) → IsDistinct e (keys_of es) → list_any (λ x. e x k) front ≡ false
  absent_at e distinct =
      let inside : i < length (keys_of es) = rw length-keys_of below in
      let here = absent_before e (keys_of es) i k distinct inside in
      let its_key : get_or (keys_of es) i k ≡ k = key_at es i k v (sym at) in
      subst (λ (xs : List K). list_any (λ x. e x k) xs ≡ false) (sym is_front) (subst (λ (y : K). list_any (λ x. e x y) (take i (keys_of es)) ≡ false) its_key here)

  -- with it they are one more
  pub grown_at : front ++ k ∷ [] ≡ take (i + 1) (keys_of es)
  grown_at =
      let inside : i < length (keys_of es) = rw length-keys_of below in
      let its_key : get_or (keys_of es) i k ≡ k = key_at es i k v (sym at) in
      ap₂ (λ xs y. xs ++ y ∷ []) is_front (sym its_key) ∙ sym (take_more (keys_of es) i k inside)
