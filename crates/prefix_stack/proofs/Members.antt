-- What stands in a list that is made of others.
use Rattle.std.proofs.Common.{◌≡◌, ◌∙◌, zero, suc, Bool, true, false, cond, List, [], ◌∷◌, map, filter, sym, ap, subst, arith}
use Rattle.std.specs.List.{Contains, flat_map}
use Rattle.std.proofs.lemmas.List.{get_or-map, length-map}
use Rattle.std.proofs.lemmas.List.Elements.{Contains-append_left, Contains-append_right}

module _ {X Y : Type 0} where
  pub in_map : (f : X → Y) (xs : List X) (x : X) → Contains xs x → Contains (map f xs) (f x)
  in_map f xs x at = (at.0, omega (arith, at.1, length-map xs f), get_or-map f xs at.0 x (f x) at.1 ∙ ap f at.2)

  pub in_flat_map : (f : X → List Y) (xs : List X) (x : X) (y : Y) → Contains xs x → Contains (f x) y → Contains (flat_map f xs) y
  in_flat_map f [] x y at within = absurd (omega (arith, at.1))
  in_flat_map f (z ∷ xs) x y (zero, lt, is) within = Contains-append_left (f z) (flat_map f xs) y (subst (λ (w : X). Contains (f w) y) (sym is) within)
  in_flat_map f (z ∷ xs) x y (suc k, lt, is) within = Contains-append_right (f z) (flat_map f xs) y (in_flat_map f xs x y (k, omega (arith, lt), is) within)

module _ {X : Type 0} where
  pub in_filter : (test : X → Bool) (xs : List X) (x : X) → Contains xs x → test x ≡ true → Contains (filter test xs) x
  in_filter test [] x at passes = absurd (omega (arith, at.1))
  in_filter test (z ∷ xs) x (zero, lt, is) passes = rw (ap test is ∙ passes) (0, omega arith, is)
  in_filter test (z ∷ xs) x (suc k, lt, is) passes = behind (test z) (in_filter test xs x (k, omega (arith, lt), is) passes) where
    behind : (b : Bool) → Contains (filter test xs) x → Contains (cond b (z ∷ filter test xs) (filter test xs)) x
    behind true there = Contains-append_right (z ∷ []) (filter test xs) x there
    behind false there = there
