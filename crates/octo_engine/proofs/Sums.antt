-- Two lists item by item.
use Rattle.std.proofs.Common.{◌≡◌, ◌<◌, ◌≤◌, ℕ, suc, ◌+◌, ◌||◌, List, [], ◌∷◌, ◌++◌, length, get_or, Bool, true, false, refl, sym, ap, ap₂, ◌∙◌, arith, true≢false}
use Rattle.std.specs.Prelude.{sum_by}
use Rattle.std.specs.List.{flat_map, list_any, range_with_len}
use Rattle.std.proofs.lemmas.List.Sums.{sum_by-cons}

-- what is made of each item of a list, in order, is what is made of its places
pub by_place : {X Y : Type 0} (f : X → List Y) (g : ℕ → List Y) (xs : List X) (a : ℕ) → ((w : ℕ) (d : X) → w < length xs → f (get_or xs w d) ≡ g (a + w))
    → flat_map f xs ≡ flat_map g (range_with_len a (length xs))
by_place f g [] a same = refl
by_place f g (x ∷ xs) a same =
    let here : f x ≡ g a = same 0 x (omega arith) ∙ ap g (omega arith) in
    ap₂ (λ u v. u ++ v) here (by_place f g xs (a + 1) (λ w d lt. same (suc w) d (omega (arith, lt)) ∙ ap g (omega arith)))

module _ {A : Type 0} (f : A → ℕ) where
  pub sums_no_more : (xs ys : List A) → length ys ≡ length xs → ((i : ℕ) (d : A) → i < length xs → f (get_or ys i d) ≤ f (get_or xs i d)) → sum_by f ys ≤ sum_by f xs
  sums_no_more [] [] len each = omega arith
  sums_no_more [] (y ∷ ys) len each = absurd (omega (arith, len))
  sums_no_more (x ∷ xs) [] len each = absurd (omega (arith, len))
  sums_no_more (x ∷ xs) (y ∷ ys) len each =
      let head : f y ≤ f x = each 0 x (omega arith) in
      let rest = sums_no_more xs ys (omega (arith, len)) (λ i d lt. each (suc i) d (omega (arith, lt))) in
      let xs_is = sum_by-cons f x xs in
      let ys_is = sum_by-cons f y ys in
      omega (arith, head, rest, xs_is, ys_is)

  -- where each is at most what it was, and less where it was marked, and one was marked
  pub sums_less : (b : A → Bool) (xs ys : List A) → length ys ≡ length xs → ((i : ℕ) (d : A) → i < length xs → f (get_or ys i d) ≤ f (get_or xs i d))
      → ((i : ℕ) (d : A) → i < length xs → b (get_or xs i d) ≡ true → f (get_or ys i d) < f (get_or xs i d)) → list_any b xs ≡ true → sum_by f ys < sum_by f xs
  sums_less b [] ys len each less some = absurd (true≢false (sym some))
  sums_less b (x ∷ xs) [] len each less some = absurd (omega (arith, len))
  sums_less b (x ∷ xs) (y ∷ ys) len each less some =
      let xs_is = sum_by-cons f x xs in
      let ys_is = sum_by-cons f y ys in
      let tails : (i : ℕ) (d : A) → i < length xs → f (get_or ys i d) ≤ f (get_or xs i d) = λ i d lt. each (suc i) d (omega (arith, lt)) in
      go (b x) refl xs_is ys_is tails (λ more. sums_less b xs ys (omega (arith, len)) tails (λ i d lt. less (suc i) d (omega (arith, lt))) more)
    where
      go : (c : Bool) → b x ≡ c → sum_by f (x ∷ xs) ≡ f x + sum_by f xs → sum_by f (y ∷ ys) ≡ f y + sum_by f ys → ((i : ℕ) (d : A) → i < length xs → f (get_or ys i d) ≤ f (get_or xs i d)) → (list_any b xs ≡ true → sum_by f ys < sum_by f xs) → sum_by f (y ∷ ys) < sum_by f (x ∷ xs)
      go true is xs_is ys_is tails rest_of =
          let head : f y < f x = less 0 x (omega arith) is in
          let rest = sums_no_more xs ys (omega (arith, len)) tails in
          omega (arith, head, rest, xs_is, ys_is)
      go false is xs_is ys_is tails rest_of =
          let head : f y ≤ f x = each 0 x (omega arith) in
          let more : list_any b xs ≡ true = ap (λ z. z || list_any b xs) (sym is) ∙ some in
          let rest = rest_of more in
          omega (arith, head, rest, xs_is, ys_is)
