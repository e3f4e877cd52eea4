-- Bits that are set, and looked for, word by word.
use Rattle.std.proofs.lemmas.List.{length-append, length-take-le, length-replicate, length-drop, get_or_append_left, get_or-take, get_or-drop, get_or-replicate, get_or-append_right}
use Rattle.std.proofs.Common.{◌≡◌, ◌≢◌, ℕ, ◌+◌, ◌-◌, ◌*◌, ◌/◌, ◌%◌, ◌^◌, ◌<◌, ◌≤◌, ◌||◌, ◌++◌, Bool, true, false, eqb, List, length, get_or, set, take, drop, replicate, min, bit_or, bit_and, refl, sym, ap, ap₂, ◌∙◌, inl, inr, arith, ext_get_or, get_or-set_same, get_or-set_other, eq-eqb}
use Rattle.std.specs.Int.{bit_at, trailing_zeros, w64}
use Rattle.std.proofs.lemmas.Bool.{cases_eq, cases_lt}
use Rattle.std.proofs.lemmas.Nat.Bits.{bit_at_and, bit_at_or, bit_at-lt, bit_at_mask_inside, bit_at_mask_below, bit_at_ones, bit_at_ones_above, bit_at-trailing_zeros, ones_shl, ones_shr, bit_at-zero}
use Rattle.std.proofs.lemmas.Nat.{and_le_l}
use Rattle.hash_rows.specs.Words.{HaveBits, bits_in, is_set_in, is_between}
use Rattle.hash_rows.proofs.Words.{length-bits_in, get_or-bits_in}

pub between_in : (start end k : ℕ) → start ≤ k → k < end → is_between start end k ≡ true
between_in start end k low high = grind arith

pub between_before : (start end k : ℕ) → k < start → is_between start end k ≡ false
between_before start end k low = grind arith

pub between_past : (start end k : ℕ) → end ≤ k → is_between start end k ≡ false
between_past start end k past = grind arith

-- ones from one bit of a word up to another
abbrev pub ones_of : ℕ → ℕ → ℕ
ones_of low end = bit_and ((2 ^ 64 - 1) * 2 ^ low % 2 ^ 64) ((2 ^ 64 - 1) / 2 ^ (64 - end))

module _ (low end i : ℕ) (some : low < end) (within : end ≤ 64) where
  both : (a b : ℕ) → bit_at ((2 ^ 64 - 1) * 2 ^ low % 2 ^ 64) i ≡ a → bit_at ((2 ^ 64 - 1) / 2 ^ (64 - end)) i ≡ b → bit_at (ones_of low end) i ≡ min a b
  both a b left right = bit_at_and ((2 ^ 64 - 1) * 2 ^ low % 2 ^ 64) ((2 ^ 64 - 1) / 2 ^ (64 - end)) i ∙ ap₂ min left right

  high_is : (2 ^ 64 - 1) * 2 ^ low % 2 ^ 64 ≡ 2 ^ 64 - 2 ^ low
  high_is = ones_shl 64 low (omega arith)

  low_is : (2 ^ 64 - 1) / 2 ^ (64 - end) ≡ 2 ^ end - 1
  low_is = ones_shr 64 (64 - end) (omega arith) ∙ ap (λ (n : ℕ). 2 ^ n - 1) (omega arith)

  pub ones_in : low ≤ i → i < end → bit_at (ones_of low end) i ≡ 1
  ones_in above below =
      both 1 1
      (ap (λ (n : ℕ). bit_at n i) high_is ∙ bit_at_mask_inside low 64 i above (omega arith))
      (ap (λ (n : ℕ). bit_at n i) low_is ∙ bit_at_ones end i below)

  pub ones_before : i < low → bit_at (ones_of low end) i ≡ 0
  ones_before below =
      both 0 (bit_at ((2 ^ 64 - 1) / 2 ^ (64 - end)) i)
      (ap (λ (n : ℕ). bit_at n i) high_is ∙ bit_at_mask_below low 64 i below)
      refl
      ∙ omega arith

  pub ones_past : end ≤ i → bit_at (ones_of low end) i ≡ 0
  ones_past past =
      both (bit_at ((2 ^ 64 - 1) * 2 ^ low % 2 ^ 64) i) 0
      refl
      (ap (λ (n : ℕ). bit_at n i) low_is ∙ bit_at_ones_above end i past)
      ∙ omega arith

-- one bit of two joined words
joined_one : (word ones i : ℕ) → bit_at ones i ≡ 1 → eqb (bit_at (bit_or word ones) i) 1 ≡ true
joined_one word ones i is =
    let one : bit_at (bit_or word ones) i ≡ 1 = omega (arith, bit_at_or word ones i, is, bit_at-lt word i) in
    eq-eqb _ 1 one

joined_zero : (word ones i : ℕ) → bit_at ones i ≡ 0 → eqb (bit_at (bit_or word ones) i) 1 ≡ eqb (bit_at word i) 1
joined_zero word ones i is =
    let same : bit_at (bit_or word ones) i ≡ bit_at word i = omega (arith, bit_at_or word ones i, is) in
    ap (λ (b : ℕ). eqb b 1) same

-- some bits of one word more
module _ (words : List ℕ) (place count word : ℕ) (some : 0 < count) (one_word : place % 64 + count ≤ 64) (within : place / 64 < length words)
    (read : get_or words (place / 64) 0 ≡ word) where
  abbrev ones : ℕ
  ones = ones_of (place % 64) (place % 64 + count)

  abbrev after : List ℕ
  after = set words (place / 64) (bit_or word ones)

  -- the bit of a place in the same word
  in_row : (k : ℕ) → k / 64 ≡ place / 64 → is_set_in after k ≡ eqb (bit_at (bit_or word ones) (k % 64)) 1
  in_row k row =
      ap (λ (n : ℕ). eqb (bit_at (get_or after n 0) (k % 64)) 1) row
      ∙ ap (λ (n : ℕ). eqb (bit_at n (k % 64)) 1) (get_or-set_same words (place / 64) (bit_or word ones) 0 within)

  was : (k : ℕ) → k / 64 ≡ place / 64 → is_set_in words k ≡ eqb (bit_at word (k % 64)) 1
  was k row = ap (λ (n : ℕ). eqb (bit_at n (k % 64)) 1) (ap (λ (n : ℕ). get_or words n 0) row ∙ read)

  stays : (k : ℕ) → is_between place (place + count) k ≡ false → is_set_in after k ≡ is_set_in words k → is_set_in after k ≡ (is_between place (place + count) k || is_set_in words k)
  stays k out same = same ∙ ap (λ (b : Bool). b || is_set_in words k) (sym out)

  pub set_more : (k : ℕ) → is_set_in after k ≡ (is_between place (place + count) k || is_set_in words k)
  set_more k =
      elim (cases_eq (k / 64) (place / 64)) [
        | inr apart ↦
            let out : is_between place (place + count) k ≡ false = elim (cases_lt k place) [
              | inl before ↦ between_before place (place + count) k before
              | inr later ↦ between_past place (place + count) k (omega arith)
            ] in
            stays k out (ap (λ (n : ℕ). eqb (bit_at n (k % 64)) 1) (get_or-set_other words (place / 64) (k / 64) (bit_or word ones) 0 apart))
        | inl row ↦
            elim (cases_lt k place) [
              | inl before ↦ stays k (between_before place (place + count) k before)
                  (in_row k row ∙ joined_zero word ones (k % 64) (ones_before (place % 64) (place % 64 + count) (k % 64) (omega arith) one_word (omega arith)) ∙ sym (was k row))
              | inr later ↦ elim (cases_lt k (place + count)) [
                | inl inside ↦
                    in_row k row ∙ joined_one word ones (k % 64) (ones_in (place % 64) (place % 64 + count) (k % 64) (omega arith) one_word (omega arith) (omega arith))
                    ∙ ap (λ (b : Bool). b || is_set_in words k) (sym (between_in place (place + count) k later inside))
                | inr past ↦ stays k (between_past place (place + count) k past)
                    (in_row k row ∙ joined_zero word ones (k % 64) (ones_past (place % 64) (place % 64 + count) (k % 64) (omega arith) one_word (omega arith)) ∙ sym (was k row))
              ]
            ]
      ]

-- bits up to a place, and then those up to a later one
pub between_more : (start place next k : ℕ) (b : Bool) → start ≤ place → place ≤ next → (is_between place next k || (is_between start place k || b)) ≡ (is_between start next k || b)
between_more start place next k b low high =
    elim (cases_lt k place) [
      | inl before ↦
          let same : is_between start place k ≡ is_between start next k = elim (cases_lt k start) [
            | inl early ↦ between_before start place k early ∙ sym (between_before start next k early)
            | inr later ↦ between_in start place k later before ∙ sym (between_in start next k later (omega arith))
          ] in
          ap (λ (t : Bool). t || (is_between start place k || b)) (between_before place next k before) ∙ ap (λ (t : Bool). t || b) same
      | inr later ↦
          let none : is_between start place k ≡ false = between_past start place k later in
          let same : is_between place next k ≡ is_between start next k = elim (cases_lt k next) [
            | inl within ↦ between_in place next k later within ∙ sym (between_in start next k (omega arith) within)
            | inr past ↦ between_past place next k past ∙ sym (between_past start next k past)
          ] in
          ap (λ (t : Bool). is_between place next k || (t || b)) none ∙ ap (λ (t : Bool). t || b) same
    ]

-- what the bits are, place by place
module _ (bits : List Bool) (start end : ℕ) (order : start ≤ end) (within : end ≤ length bits) where
  abbrev ranged : List Bool
  ranged = take start bits ++ replicate (end - start) true ++ drop end bits

  long : length ranged ≡ length bits
  long = omega (arith, length-append (take start bits ++ replicate (end - start) true) (drop end bits), length-append (take start bits) (replicate (end - start) true), length-take-le start bits (omega arith), length-replicate (end - start) true, length-drop end bits)

  front_long : length (take start bits ++ replicate (end - start) true) ≡ end
  front_long = omega (arith, length-append (take start bits) (replicate (end - start) true), length-take-le start bits (omega arith), length-replicate (end - start) true)

  ranged_at : (k : ℕ) → k < length bits → get_or ranged k false ≡ (is_between start end k || get_or bits k false)
  ranged_at k inside =
      elim (cases_lt k end) [
        | inl below ↦
            get_or_append_left (take start bits ++ replicate (end - start) true) (drop end bits) false k (omega (arith, front_long))
            ∙ (elim (cases_lt k start) [
              | inl early ↦
                  get_or_append_left (take start bits) (replicate (end - start) true) false k (omega (arith, length-take-le start bits (omega arith)))
                  ∙ get_or-take start bits k false early
                  ∙ ap (λ (b : Bool). b || get_or bits k false) (sym (between_before start end k early))
              | inr later ↦
                  get_or-append_right (take start bits) (replicate (end - start) true) start k false (length-take-le start bits (omega arith)) later
                  ∙ get_or-replicate (end - start) (k - start) true false (omega arith)
                  ∙ ap (λ (b : Bool). b || get_or bits k false) (sym (between_in start end k later below))
            ])
        | inr past ↦
            get_or-append_right (take start bits ++ replicate (end - start) true) (drop end bits) end k false front_long past
            ∙ get_or-drop end bits (k - end) false
            ∙ ap (λ (n : ℕ). get_or bits n false) (omega arith)
            ∙ ap (λ (b : Bool). b || get_or bits k false) (sym (between_past start end k past))
      ]

-- the first bits of the words, with a range of them set
pub bits_in-ranged : (words after : List ℕ) (len start end : ℕ) → start ≤ end → end ≤ len
    → ((k : ℕ) → is_set_in after k ≡ (is_between start end k || is_set_in words k))
    → bits_in after len ≡ take start (bits_in words len) ++ replicate (end - start) true ++ drop end (bits_in words len)
bits_in-ranged words after len start end order within bits =
    let room : end ≤ length (bits_in words len) = omega (arith, length-bits_in words len) in
    ext_get_or false _ _ (length-bits_in after len ∙ sym (length-bits_in words len) ∙ sym (long (bits_in words len) start end order room))
    (λ k h.
    let below : k < len = rw length-bits_in at h in
    let inside : k < length (bits_in words len) = omega (arith, length-bits_in words len) in
    get_or-bits_in after len k below ∙ bits k
    ∙ ap (λ (b : Bool). is_between start end k || b) (sym (get_or-bits_in words len k below))
    ∙ sym (ranged_at (bits_in words len) start end order room k inside))

pub have_bits-ranged : (words after : List ℕ) (len start end : ℕ) → end ≤ len → length after ≡ length words
    → ((k : ℕ) → is_set_in after k ≡ (is_between start end k || is_set_in words k)) → HaveBits words len → HaveBits after len
have_bits-ranged words after len start end within same bits have = record {
  words_needed = same ∙ have.words_needed;
  rest = λ k past. bits k ∙ ap₂ (λ (a b : Bool). a || b) (between_past start end k (omega arith)) (have.rest k past);
}

-- the bits of a word from one on
abbrev pub from_bit : ℕ → ℕ → ℕ
from_bit word low = bit_and word ((2 ^ 64 - 1) * 2 ^ low % 2 ^ 64)

pub from_bit_in : (word low k : ℕ) → low ≤ k → k < 64 → bit_at (from_bit word low) k ≡ bit_at word k
from_bit_in word low k above below =
    let mask : bit_at ((2 ^ 64 - 1) * 2 ^ low % 2 ^ 64) k ≡ 1 = ap (λ (n : ℕ). bit_at n k) (ones_shl 64 low (omega arith)) ∙ bit_at_mask_inside low 64 k above below in
    omega (arith, bit_at_and word ((2 ^ 64 - 1) * 2 ^ low % 2 ^ 64) k, mask, bit_at-lt word k)

pub from_bit_before : (word low k : ℕ) → low < 64 → k < low → bit_at (from_bit word low) k ≡ 0
from_bit_before word low k some below =
    let mask : bit_at ((2 ^ 64 - 1) * 2 ^ low % 2 ^ 64) k ≡ 0 = ap (λ (n : ℕ). bit_at n k) (ones_shl 64 low (omega arith)) ∙ bit_at_mask_below low 64 k below in
    omega (arith, bit_at_and word ((2 ^ 64 - 1) * 2 ^ low % 2 ^ 64) k, mask)

pub no_bit : (word low k : ℕ) → from_bit word low ≡ 0 → low ≤ k → k < 64 → bit_at word k ≡ 0
no_bit word low k none above below = sym (from_bit_in word low k above below) ∙ ap (λ (n : ℕ). bit_at n k) none ∙ bit_at-zero k

-- the lowest of them
pub record IsLowest (word low place : ℕ) : Type 0 where
  pub above : low ≤ place
  pub found : bit_at word place ≡ 1
  pub before : (k : ℕ) → low ≤ k → k < place → bit_at word k ≡ 0

pub lowest_bit : (word low : ℕ) → low < 64 → word < 2 ^ 64 → from_bit word low ≢ 0 → IsLowest word low (trailing_zeros w64 (from_bit word low))
lowest_bit word low some fits have =
    let rest : ℕ = from_bit word low in
    let small : rest < 2 ^ 64 = omega (arith, and_le_l word ((2 ^ 64 - 1) * 2 ^ low % 2 ^ 64)) in
    let lowest = bit_at-trailing_zeros w64 rest (omega arith) small in
    let above : low ≤ trailing_zeros w64 rest = elim (cases_lt (trailing_zeros w64 rest) low) [
      | inl below ↦ absurd (omega (arith, lowest.1, from_bit_before word low (trailing_zeros w64 rest) some below))
      | inr above ↦ above
    ] in
    record {
      above = above;
      found = sym (from_bit_in word low (trailing_zeros w64 rest) above lowest.0) ∙ lowest.1;
      before = λ k later early. sym (from_bit_in word low k later (omega (arith, lowest.0))) ∙ lowest.2 k early;
    }
