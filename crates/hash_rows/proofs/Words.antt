-- The bits that words hold.
use Rattle.std.proofs.Common.{◌≡◌, ◌≢◌, ℕ, zero, ◌*◌, ◌/◌, ◌%◌, ◌^◌, ◌<◌, ◌≤◌, Bool, true, false, eqb, List, length, replicate, get_or, set, bit_or, sym, ap, ◌∙◌, inl, inr, arith, w64, ext_get_or, length-set, get_or-set_same, get_or-set_other, eq-eqb}
use Rattle.std.specs.Int.{bit_at, div_ceil}
use Rattle.std.proofs.lemmas.Bool.{cases_eq, cases_lt}
use Rattle.std.proofs.lemmas.Grind.{div_ceil_times}
use Rattle.std.proofs.lemmas.List.{length-replicate, get_or-replicate, get_or_past}
use Rattle.std.proofs.lemmas.List.FromFn.{length-map-range_with_len, get_or-map-range_with_len}
use Rattle.std.proofs.lemmas.Nat.Bits.{bit_at-zero, bit_at_set_same, bit_at_set_other}
use Rattle.hash_rows.specs.Words.{HaveBits, bits_in, is_set_in}

pub length-bits_in : (words : List ℕ) (len : ℕ) → length (bits_in words len) ≡ len
length-bits_in words len = length-map-range_with_len (is_set_in words) 0 len

pub get_or-bits_in : (words : List ℕ) (len place : ℕ) → place < len → get_or (bits_in words len) place false ≡ is_set_in words place
get_or-bits_in words len place within = get_or-map-range_with_len (is_set_in words) 0 len place place false within (omega arith)

-- a place of the bits, and its word
pub place_within : (words : List ℕ) (len place : ℕ) (bits : List Bool) → bits_in words len ≡ bits → place < length bits → place < len
place_within words len place bits is within = omega (arith, ap length is, length-bits_in words len)

pub room_of : (words : List ℕ) (len : ℕ) → HaveBits words len → len ≤ length words * 64
room_of words len have =
    let enough = div_ceil_times len 64 (omega arith) in
    omega (arith, have.words_needed)

pub word_within : (words : List ℕ) (len place : ℕ) (bits : List Bool) → bits_in words len ≡ bits → HaveBits words len → place < length bits → place / 64 < length words
word_within words len place bits is have within = omega (arith, room_of words len have, place_within words len place bits is within)

-- words of 0 hold no set bit
none_set : (words place : ℕ) → is_set_in (replicate words 0) place ≡ false
none_set words place = ap (λ x. eqb (bit_at x (place % 64)) 1) zero_word ∙ ap (λ x. eqb x 1) (bit_at-zero (place % 64)) where
  zero_word : get_or (replicate words 0) (place / 64) 0 ≡ zero
  zero_word = elim (cases_lt (place / 64) words) [
    | inl within ↦ get_or-replicate words (place / 64) 0 0 within
    | inr past ↦ get_or_past (replicate words 0) (place / 64) 0 (omega (arith, length-replicate {A = ℕ} words 0))
  ]

pub have_bits-zeros : (count len : ℕ) → count ≡ div_ceil len 64 → HaveBits (replicate count 0) len
have_bits-zeros count len needed = record {
  words_needed = length-replicate {A = ℕ} count 0 ∙ needed;
  rest = λ place _. none_set count place;
}

pub bits_in-zeros : (words len : ℕ) → bits_in (replicate words 0) len ≡ replicate len false
bits_in-zeros words len =
    ext_get_or false _ _ (length-bits_in (replicate words 0) len ∙ sym (length-replicate len false))
    (λ k h.
    let within : k < len = rw length-bits_in at h in
    get_or-bits_in (replicate words 0) len k within ∙ none_set words k ∙ sym (get_or-replicate len k false false within))

-- the word of the place, with the bit of the place set
abbrev pub with_bit : ℕ → ℕ → ℕ
with_bit word place = bit_or word (1 * 2 ^ (place % 64) % 2 ^ 64)

module _ (words : List ℕ) (place word : ℕ) (within : place / 64 < length words) (read : get_or words (place / 64) 0 ≡ word) where
  is_set_same : is_set_in (set words (place / 64) (with_bit word place)) place ≡ true
  is_set_same =
      ap (λ x. eqb (bit_at x (place % 64)) 1) (get_or-set_same words (place / 64) (with_bit word place) 0 within)
      ∙ eq-eqb _ 1 (bit_at_set_same w64 word (place % 64) (omega arith))

  is_set_other : (k : ℕ) → k ≢ place → is_set_in (set words (place / 64) (with_bit word place)) k ≡ is_set_in words k
  is_set_other k other =
      elim (cases_eq (k / 64) (place / 64)) [
        | inl row ↦
            ap (λ x. eqb (bit_at (get_or (set words (place / 64) (with_bit word place)) x 0) (k % 64)) 1) row
            ∙ ap (λ x. eqb (bit_at x (k % 64)) 1) (get_or-set_same words (place / 64) (with_bit word place) 0 within)
            ∙ ap (λ x. eqb x 1) (bit_at_set_other w64 word (place % 64) (omega arith) (k % 64) (omega arith))
            ∙ ap (λ x. eqb (bit_at x (k % 64)) 1) (sym read ∙ ap (λ x. get_or words x 0) (sym row))
        | inr apart ↦ ap (λ x. eqb (bit_at x (k % 64)) 1) (get_or-set_other words (place / 64) (k / 64) (with_bit word place) 0 apart)
      ]

  -- the bit of the place is set, and every other bit stays
  pub bits_in-set : (len : ℕ) → place < len → bits_in (set words (place / 64) (with_bit word place)) len ≡ set (bits_in words len) place true
  bits_in-set len inside =
      let after = set words (place / 64) (with_bit word place) in
      let here : place < length (bits_in words len) = omega (arith, length-bits_in words len) in
      ext_get_or false _ _ (length-bits_in after len ∙ sym (length-bits_in words len) ∙ sym (length-set (bits_in words len) place true))
      (λ k h.
      let below : k < len = rw length-bits_in at h in
      get_or-bits_in after len k below
      ∙ (elim (cases_eq k place) as (λ _. is_set_in after k ≡ get_or (set (bits_in words len) place true) k false) [
        | inl same ↦ rw same (is_set_same ∙ sym (get_or-set_same (bits_in words len) place true false here))
        | inr other ↦ is_set_other k other ∙ sym (get_or-bits_in words len k below) ∙ sym (get_or-set_other (bits_in words len) place k true false other)
      ]))

  pub have_bits-set : (len : ℕ) → place < len → HaveBits words len → HaveBits (set words (place / 64) (with_bit word place)) len
  have_bits-set len inside have = record {
    words_needed = length-set words (place / 64) (with_bit word place) ∙ have.words_needed;
    rest = λ k past. is_set_other k (λ e. omega arith) ∙ have.rest k past;
  }
