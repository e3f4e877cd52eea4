-- Which positions a worker owns, where packets are shared out in turn.
use Rattle.std.proofs.Common.{◌≡◌, ◌≢◌, ◌<◌, ◌≤◌, ℕ, zero, suc, ◌+◌, ◌-◌, ◌*◌, ◌/◌, ◌%◌, ◌^◌, ◌==◌, List, [], ◌∷◌, ◌++◌, Bool, true, false, if◌then◌else◌, length, get_or, refl, sym, ap, ◌∙◌, subst, arith, inl, inr}
use Rattle.std.specs.Prelude.{filter, map}
use Rattle.std.specs.List.{range_with_len}
use Rattle.std.proofs.Math.Nat.{mul_comm, mul-le-mul_left, mod-lt, div-add-mod, div-lt_iff_lt-mul, le-div_iff_mul-le}
use Rattle.std.proofs.lemmas.Bool.{cases_lt}
use Rattle.std.proofs.lemmas.List.FromFn.{get_or-map-range_with_len, length-map-range_with_len, map-range_with_len_more}
use Rattle.shares.specs.declared.positions.Form.{Form}
use Rattle.shares.specs.declared.positions.Form.TheVariants.{Turns}
use Rattle.shares.specs.Positions.{HasShortPositions, positions_in}
use Rattle.shares.proofs.Owning.{owned_more}

div_is : (q x d : ℕ) → 0 < d → d * q ≤ x → x < d * q + d → x / d ≡ q
div_is q x d some least most =
    let turned : q * d ≡ d * q = mul_comm q d in
    let above : (q + 1) * d ≡ d * q + d = grind arith in
    let low : q ≤ x / d = (le-div_iff_mul-le some).1 (omega (arith, least, turned)) in
    let high : x / d < q + 1 = (div-lt_iff_lt-mul some).1 (omega (arith, most, above)) in
    omega (arith, low, high)

module _ (workers w : ℕ) (lt : w < workers) where
  -- how many of the first n positions the worker owns
  count : ℕ → ℕ
  count n = (n + (workers - 1 - w)) / workers

  count_mine : (n : ℕ) → n % workers ≡ w → (count n ≡ n / workers) × (count (n + 1) ≡ n / workers + 1)
  unfolding count
  count_mine n is =
      let q = n / workers in
      let parts : workers * q + n % workers ≡ n = div-add-mod n workers in
      let more : workers * (q + 1) ≡ workers * q + workers = grind arith in (
        div_is q (n + (workers - 1 - w)) workers (omega (arith, lt)) (omega (arith, parts, is, lt)) (omega (arith, parts, is, lt)),
        div_is (q + 1) (n + 1 + (workers - 1 - w)) workers (omega (arith, lt)) (omega (arith, parts, is, lt, more)) (omega (arith, parts, is, lt, more)),
      )

  count_other : (n : ℕ) → n % workers ≢ w → count n ≡ count (n + 1)
  unfolding count
  count_other n not =
      let q = n / workers in
      let some : 0 < workers = omega (arith, lt) in
      let parts : workers * q + n % workers ≡ n = div-add-mod n workers in
      let rest : n % workers < workers = mod-lt n some in
      let more : workers * (q + 1) ≡ workers * q + workers = grind arith in
      elim (cases_lt (n % workers) w) [
        | inl early ↦
            div_is q (n + (workers - 1 - w)) workers some (omega (arith, parts, lt, early)) (omega (arith, parts, lt, early))
            ∙ sym (div_is q (n + 1 + (workers - 1 - w)) workers some (omega (arith, parts, lt, early)) (omega (arith, parts, lt, early)))
        | inr late ↦
            div_is (q + 1) (n + (workers - 1 - w)) workers some (omega (arith, parts, lt, late, more, not)) (omega (arith, parts, lt, late, more, rest))
            ∙ sym (div_is (q + 1) (n + 1 + (workers - 1 - w)) workers some (omega (arith, parts, lt, late, more)) (omega (arith, parts, lt, late, more, rest)))
      ]

  turn : ℕ → ℕ
  turn k = w + workers * k

  turns : ℕ → List ℕ
  turns n = map turn (range_with_len 0 n)

  -- one position more
  step : (b : Bool) (n : ℕ) → (n % workers == w) ≡ b → (if b then turns (count n) ++ n ∷ [] else turns (count n)) ≡ turns (count (n + 1))
  unfolding turn turns
  step true n test =
      let is : n % workers ≡ w = grind (arith, test) in
      let both = count_mine n is in
      let q = n / workers in
      let parts : workers * q + n % workers ≡ n = div-add-mod n workers in
      let here : n ≡ turn q = omega (arith, parts, is) in
      ap (λ c. map turn (range_with_len 0 c) ++ n ∷ []) both.0
      ∙ ap (λ z. map turn (range_with_len 0 q) ++ z ∷ []) here
      ∙ sym (map-range_with_len_more turn 0 q q (omega arith))
      ∙ sym (ap (λ c. map turn (range_with_len 0 c)) both.1)
  step false n test =
      let not : n % workers ≢ w = grind (arith, test) in
      ap (λ c. map turn (range_with_len 0 c)) (count_other n not)

  mine : ℕ → Bool
  mine i = i % workers == w

  owned_are : (n : ℕ) → filter mine (range_with_len 0 n) ≡ turns (count n)
  unfolding mine count turns
  owned_are zero = ap (λ c. map turn (range_with_len 0 c)) (sym (div_is 0 (0 + (workers - 1 - w)) workers (omega (arith, lt)) (omega arith) (omega (arith, lt))))
  owned_are (suc n) =
      let next : suc n ≡ n + 1 = omega arith in
      ap (λ m. filter mine (range_with_len 0 m)) next
      ∙ owned_more mine n
      ∙ ap (λ l. if mine n then l ++ n ∷ [] else l) (owned_are n)
      ∙ step (n % workers == w) n refl
      ∙ sym (ap (λ m. turns (count m)) next)

  -- the worker owns every so many-th position
  pub turns_are : (n : ℕ) → filter (λ i. i % workers == w) (range_with_len 0 n) ≡ map (λ k. w + workers * k) (range_with_len 0 ((n + (workers - 1 - w)) / workers))
  unfolding mine count turn turns
  turns_are n = owned_are n

-- the positions of a worker in turn, as they are held
module _ (form : Form) (xs : List ℕ) (first step count : ℕ) (view : positions_in form ≡ xs) (is : form ≡ Turns first step count) where
  nth : ℕ → ℕ
  nth k = first + step * k

  items_are : xs ≡ map nth (range_with_len 0 count)
  unfolding nth
  items_are = sym view ∙ ap positions_in is

  pub many_turns : length xs ≡ count
  many_turns = ap length items_are ∙ length-map-range_with_len nth 0 count

  pub turn_at : (place : ℕ) → place < length xs → first + step * place ≡ get_or xs place 0
  unfolding nth
  turn_at place lt =
      let len = many_turns in
      sym (ap (λ (l : List ℕ). get_or l place 0) items_are ∙ get_or-map-range_with_len nth 0 count place place 0 (omega (arith, lt, len)) (omega arith))

  pub turn_fits : (place : ℕ) → place < length xs → HasShortPositions form → first + step * place < 2 ^ 32
  turn_fits place lt short =
      let len = many_turns in
      let all : first + step * count < 2 ^ 32 = subst HasShortPositions is short in
      let most : step * place ≤ step * count = mul-le-mul_left step (omega (arith, lt, len)) in
      omega (arith, all, most)
