-- Answers stand by reader, then by number.
use Rattle.std.proofs.Common.{◌≡◌, ◌<◌, ◌≤◌, ℕ, zero, suc, ◌+◌, ◌-◌, ◌*◌, List, ◌++◌, length, map, get_or, refl, sym, ap, ◌∙◌, subst, arith, inl, inr}
use Rattle.std.specs.List.{flat_map, range_with_len}
use Rattle.std.proofs.lemmas.Bool.{cases_lt, cases_order}
use Rattle.std.proofs.lemmas.List.{get_or_append_left, get_or-append_right, length-append, get_or-map, length-map}
use Rattle.std.proofs.lemmas.List.FromFn.{get_or-map-range_with_len, length-map-range_with_len}
use Rattle.std.proofs.lemmas.Nat.{mul-le}
use Rattle.push_history.specs.Answers.{AnswerParts}
use Rattle.push_history.specs.LawfulJournal.{places_of, places_by}
use Rattle.audit_law.specs.AnswerTests.{no_answer}

-- so many answers of each reader from one on
abbrev places_from : ℕ → ℕ → ℕ → List (ℕ × ℕ)
places_from asks first readers = flat_map (λ q. map (λ n. (q, n)) (range_with_len 0 asks)) (range_with_len first readers)

next_block : (asks q : ℕ) → (q + 1) * asks ≡ q * asks + asks
next_block asks q = grind arith

-- the reader and the number of place i
place_is : (asks first readers i : ℕ) → i < length (places_from asks first readers) → let p = get_or (places_from asks first readers) i (0, 0) in (p.1 < asks) × (first * asks + i ≡ p.0 * asks + p.1)
place_is asks first zero i lt = absurd (omega (arith, lt))
place_is asks first (suc readers) i lt =
    let row : List (ℕ × ℕ) = map (λ (n : ℕ). (first, n)) (range_with_len 0 asks) in
    let rest : List (ℕ × ℕ) = places_from asks (first + 1) readers in
    let long : length row ≡ asks = length-map-range_with_len (λ n. (first, n)) 0 asks in
    elim (cases_lt i asks) [
      | inl inside ↦
          let here : get_or (row ++ rest) i (0, 0) ≡ (first, i) =
          get_or_append_left row rest (0, 0) i (omega (arith, inside, long)) ∙ get_or-map-range_with_len (λ n. (first, n)) 0 asks i i (0, 0) inside (omega arith) in
          subst (λ (p : ℕ × ℕ). (p.1 < asks) × (first * asks + i ≡ p.0 * asks + p.1)) (sym here) (inside, refl)
      | inr past ↦
          let there : get_or (row ++ rest) i (0, 0) ≡ get_or rest (i - asks) (0, 0) = get_or-append_right row rest asks i (0, 0) long past in
          let later = place_is asks (first + 1) readers (i - asks) (omega (arith, lt, length-append row rest, long, past)) in
          let block = next_block asks first in
          subst (λ (p : ℕ × ℕ). (p.1 < asks) × (first * asks + i ≡ p.0 * asks + p.1)) (sym there) (later.0, omega (arith, later.1, block, past))
    ]

-- a later block is further on
block_below : (asks r n s m : ℕ) → n < asks → r < s → r * asks + n < s * asks + m
block_below asks r n s m within lt =
    let next = next_block asks r in
    let more = mul-le (r + 1) asks s asks (omega (arith, lt)) (omega arith) in
    omega (arith, next, more, within)

module _ (answers : List AnswerParts) (readers asks : ℕ) (places : places_of answers ≡ places_by readers asks) where
  abbrev at : ℕ → AnswerParts
  at i = get_or answers i no_answer

  pub place_of : (i : ℕ) → i < length answers → ((at i).number < asks) × (i ≡ (at i).reader * asks + (at i).number)
  place_of i lt =
      let place : get_or (places_by readers asks) i (0, 0) ≡ ((at i).reader, (at i).number) =
      sym (ap (λ (t : List (ℕ × ℕ)). get_or t i (0, 0)) places) ∙ get_or-map (λ a. (a.reader, a.number)) answers i no_answer (0, 0) lt in
      let long : length (places_of answers) ≡ length answers = length-map answers (λ a. (a.reader, a.number)) in
      let within : i < length (places_by readers asks) = omega (arith, lt, long, ap length places) in
      let is = place_is asks 0 readers i within in
      let here = subst (λ (p : ℕ × ℕ). (p.1 < asks) × (0 * asks + i ≡ p.0 * asks + p.1)) place is in
      (here.0, omega (arith, here.1))

  -- one reader's answers stand by number
  pub by_number : (i k : ℕ) → i < length answers → k < length answers → (at i).reader ≡ (at k).reader → (at i).number ≤ (at k).number → i ≤ k
  by_number i k lt lt' same le =
      let first = place_of i lt in
      let second = place_of k lt' in
      let block : (at i).reader * asks ≡ (at k).reader * asks = ap (λ (n : ℕ). n * asks) same in
      omega (arith, first.1, second.1, block, le)

  -- and beside each other
  pub between : (i m k : ℕ) → i ≤ m → m ≤ k → k < length answers → (at i).reader ≡ (at k).reader → (at m).reader ≡ (at i).reader
  between i m k low high lt same =
      let first = place_of i (omega (arith, low, high, lt)) in
      let here = place_of m (omega (arith, high, lt)) in
      let last = place_of k lt in
      elim (cases_order (at m).reader (at i).reader) [
        | inl e ↦ e
        | inr (inl below) ↦ absurd (let apart = block_below asks (at m).reader (at m).number (at i).reader (at i).number here.0 below in omega (arith, apart, first.1, here.1, low))
        | inr (inr above) ↦ absurd (
            let apart = block_below asks (at k).reader (at k).number (at m).reader (at m).number last.0 (omega (arith, above, same)) in
            omega (arith, apart, last.1, here.1, high))
      ]

  -- behind an answer of the same reader stands no first one
  pub later_number : (i m : ℕ) → i < m → m < length answers → (at m).reader ≡ (at i).reader → 0 < (at m).number
  later_number i m lt within same =
      let first = place_of i (omega (arith, lt, within)) in
      let here = place_of m within in
      let block : (at m).reader * asks ≡ (at i).reader * asks = ap (λ (n : ℕ). n * asks) same in
      omega (arith, first.1, here.1, block, lt)

  -- before one that isn't the first of its reader stands another of it
  pub before_it : (i : ℕ) → i < length answers → 0 < (at i).number → (0 < i) × ((at (i - 1)).reader ≡ (at i).reader) × ((at (i - 1)).number ≤ (at i).number)
  before_it i lt later =
      let here = place_of i lt in
      let some : 0 < i = omega (arith, here.1, later) in
      let before = place_of (i - 1) (omega (arith, lt)) in
      let same : (at (i - 1)).reader ≡ (at i).reader = elim (cases_order (at (i - 1)).reader (at i).reader) [
        | inl e ↦ e
        | inr (inl below) ↦ absurd (let apart = block_below asks (at (i - 1)).reader (at (i - 1)).number (at i).reader ((at i).number - 1) before.0 below in omega (arith, apart, before.1, here.1, later, some))
        | inr (inr above) ↦ absurd (let apart = block_below asks (at i).reader (at i).number (at (i - 1)).reader (at (i - 1)).number here.0 above in omega (arith, apart, before.1, here.1, some))
      ] in
      let block : (at (i - 1)).reader * asks ≡ (at i).reader * asks = ap (λ (n : ℕ). n * asks) same in
      (some, same, omega (arith, before.1, here.1, block, some))
