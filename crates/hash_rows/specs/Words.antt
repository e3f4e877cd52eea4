-- Bits that are kept 64 to a word, the lowest bit of each word first.
use Rattle.std.specs.Prelude.{◌≡◌, ◌≤◌, ◌&&◌, ℕ, ◌/◌, ◌%◌, List, Bool, false, eqb, get_or, length, map, nat_le, nat_lt}
use Rattle.std.specs.Int.{bit_at, div_ceil}
use Rattle.std.specs.List.{range_with_len}

-- whether the bit at the place is set
abbrev pub is_set_in : List ℕ → ℕ → Bool
is_set_in words place = eqb (bit_at (get_or words (place / 64) 0) (place % 64)) 1

-- whether the place stands from the start on, before the end
abbrev pub is_between : ℕ → ℕ → ℕ → Bool
is_between start end place = nat_le start place && nat_lt place end

-- the first bits of the words, so many
abbrev pub bits_in : List ℕ → ℕ → List Bool
bits_in words len = map (is_set_in words) (range_with_len 0 len)

-- so many bits are kept in as few words as they need, and the bits after them are clear
pub record HaveBits (words : List ℕ) (len : ℕ) : Type 0 where
  pub words_needed : length words ≡ div_ceil len 64
  pub rest : (place : ℕ) → len ≤ place → is_set_in words place ≡ false
