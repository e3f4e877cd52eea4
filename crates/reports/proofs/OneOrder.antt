-- A set has one list in a strict order.
use Rattle.std.proofs.Common.{◌≡◌, ◌∙◌, ◌⊎◌, inl, inr, refl, sym, subst, arith, List, [], ◌∷◌, suc, AllPairs}
use Rattle.heavy_keys.proofs.Members.{Has, contains_from}

module _ {X : Type 0} (R : X → X → Type 0) (strict : (a b : X) → R a b → R b a → ⊥) where
  -- the first of a list in order is before the others
  first : (x : X) (xs : List X) (y : X) → AllPairs R (x ∷ xs) → Has xs y → R x y
  first x xs y order has =
      let c = contains_from xs y has in
      let within = c.1 in
      subst (R x) c.2 (order 0 (suc c.0) y (omega arith) (omega arith))

  others : (x : X) (xs : List X) → AllPairs R (x ∷ xs) → AllPairs R xs
  others x xs order = λ i j d lt within. order (suc i) (suc j) d (omega arith) (omega arith)

  one_head : (x y : X) (xs ys : List X) → AllPairs R (x ∷ xs) → AllPairs R (y ∷ ys) → Has (y ∷ ys) x → Has (x ∷ xs) y → x ≡ y
  one_head x y xs ys up down (inl e) other = sym e
  one_head x y xs ys up down (inr h) (inl e) = e
  one_head x y xs ys up down (inr h) (inr k) = absurd (strict x y (first x xs y up k) (first y ys x down h))

  -- what is behind the first of one list is behind the first of the other
  behind : (x y : X) (xs ys : List X) → x ≡ y → AllPairs R (x ∷ xs) → ((q : X) → Has (x ∷ xs) q → Has (y ∷ ys) q) → (q : X) → Has xs q → Has ys q
  behind x y xs ys e up all q has = by (all q (inr has))
    where
      by : (y ≡ q) ⊎ Has ys q → Has ys q
      by (inl f) = let r : R x x = subst (R x) (sym f ∙ sym e) (first x xs q up has) in absurd (strict x x r r)
      by (inr h) = h

  pub one_list : (xs ys : List X) → AllPairs R xs → AllPairs R ys → ((q : X) → Has xs q → Has ys q) → ((q : X) → Has ys q → Has xs q) → xs ≡ ys
  one_list [] [] up down there back = refl
  one_list [] (y ∷ ys) up down there back = absurd (back y (inl refl))
  one_list (x ∷ xs) [] up down there back = absurd (there x (inl refl))
  one_list (x ∷ xs) (y ∷ ys) up down there back =
      let e = one_head x y xs ys up down (there x (inl refl)) (back y (inl refl)) in
      let rest = one_list xs ys (others x xs up) (others y ys down) (behind x y xs ys e up there) (behind y x ys xs (sym e) down back) in
      λ i. e i ∷ rest i
