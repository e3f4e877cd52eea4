-- How many bits of words are set, counted word by word.
use Rattle.std.proofs.Common.{◌≡◌, ℕ, zero, suc, ◌+◌, ◌-◌, ◌*◌, ◌/◌, ◌%◌, ◌^◌, ◌<◌, ◌≤◌, Bool, false, cond, eqb, List, length, get_or, count_by, refl, ap, ◌∙◌, arith}
use Rattle.std.specs.Int.{bit_at}
use Rattle.std.specs.Int.RustNames.{count_ones}
use Rattle.std.proofs.lemmas.List.FromFn.{sum_by-map-range_with_len_more}
use Rattle.std.proofs.lemmas.List.Sums.{count_by-le-length}
use Rattle.std.proofs.lemmas.Nat.{mod-pow-add, ones_cat, mod_below, pow_pos}
use Rattle.std.proofs.lemmas.Nat.Bits.{bit_at-lt}
use Rattle.hash_rows.specs.Words.{HaveBits, bits_in, is_set_in}
use Rattle.hash_rows.proofs.Words.{length-bits_in, room_of}

-- how many of the first bits are set
abbrev pub set_before : List ℕ → ℕ → ℕ
set_before words len = count_by (λ mark. mark) (bits_in words len)

-- 1 for a set bit
abbrev one : Bool → ℕ
one bit = cond bit 1 0

one_more : (words : List ℕ) (len : ℕ) → set_before words (len + 1) ≡ set_before words len + one (is_set_in words len)
one_more words len = sum_by-map-range_with_len_more one (is_set_in words) 0 len len (omega arith)

ones_of_bit : (bit : ℕ) → bit < 2 → count_ones bit ≡ one (eqb bit 1)
unfolding count_ones
ones_of_bit zero below = refl
ones_of_bit (suc zero) below = refl
ones_of_bit (suc (suc n)) below = absurd (omega arith)

-- the low bits of a number, one bit more
ones_more : (word k : ℕ) → count_ones (word % 2 ^ (k + 1)) ≡ count_ones (word % 2 ^ k) + one (eqb (bit_at word k) 1)
ones_more word k =
    let parts : word % 2 ^ (k + 1) ≡ bit_at word k * 2 ^ k + word % 2 ^ k = ap (λ n. word % 2 ^ n) (omega arith) ∙ mod-pow-add word 1 k in
    let two = ones_cat k (bit_at word k) (word % 2 ^ k) (mod_below word (2 ^ k) (pow_pos k)) in
    let bit = ones_of_bit (bit_at word k) (bit_at-lt word k) in
    omega (arith, ap count_ones parts, two, bit)

-- the bits of a word
in_word : (words : List ℕ) (row k : ℕ) → k ≤ 64 → set_before words (row * 64 + k) ≡ set_before words (row * 64) + count_ones (get_or words row 0 % 2 ^ k)
in_word words row zero within =
    let at : row * 64 + zero ≡ row * 64 = omega arith in
    let none : get_or words row 0 % 1 ≡ zero = omega arith in
    omega (arith, ap (set_before words) at, ap count_ones none, ones_of_bit 0 (omega arith))
in_word words row (suc k) within =
    let place : ℕ = row * 64 + k in
    let word : ℕ = get_or words row 0 in
    let next : row * 64 + suc k ≡ place + 1 = omega arith in
    let bits : suc k ≡ k + 1 = omega arith in
    let its_row : place / 64 ≡ row = omega arith in
    let its_bit : place % 64 ≡ k = omega arith in
    let here : one (is_set_in words place) ≡ one (eqb (bit_at word k) 1) =
    ap (λ n. one (eqb (bit_at (get_or words n 0) (place % 64)) 1)) its_row ∙ ap (λ n. one (eqb (bit_at word n) 1)) its_bit in
    let low : count_ones (word % 2 ^ suc k) ≡ count_ones (word % 2 ^ (k + 1)) = ap (λ n. count_ones (word % 2 ^ n)) bits in
    omega (arith, ap (set_before words) next, low, one_more words place, here, ones_more word k, in_word words row k (omega arith))

-- one word more
pub word_more : (words : List ℕ) (row : ℕ) → get_or words row 0 < 2 ^ 64 → set_before words ((row + 1) * 64) ≡ set_before words (row * 64) + count_ones (get_or words row 0)
word_more words row fits =
    let next : (row + 1) * 64 ≡ row * 64 + 64 = omega arith in
    let whole : get_or words row 0 % 2 ^ 64 ≡ get_or words row 0 = omega arith in
    omega (arith, ap (set_before words) next, in_word words row 64 (omega arith), ap count_ones whole)

-- the bits after the last are clear
clear_past : (words : List ℕ) (len more : ℕ) → ((place : ℕ) → len ≤ place → is_set_in words place ≡ false) → set_before words (len + more) ≡ set_before words len
clear_past words len zero rest =
    let at : len + zero ≡ len = omega arith in
    ap (set_before words) at
clear_past words len (suc more) rest =
    let next : len + suc more ≡ len + more + 1 = omega arith in
    omega (arith, ap (set_before words) next, one_more words (len + more), ap one (rest (len + more) (omega arith)), clear_past words len more rest)

-- all the words have no more set bits than the first bits
pub set_in_all : (words : List ℕ) (len : ℕ) → HaveBits words len → set_before words (length words * 64) ≡ set_before words len
set_in_all words len have =
    let all : length words * 64 ≡ len + (length words * 64 - len) = omega (arith, room_of words len have) in
    ap (set_before words) all ∙ clear_past words len (length words * 64 - len) have.rest

pub set_before_le : (words : List ℕ) (len : ℕ) → set_before words len ≤ len
set_before_le words len = omega (arith, count_by-le-length (λ mark. mark) (bits_in words len), length-bits_in words len)
