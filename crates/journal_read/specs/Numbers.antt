-- Numbers that stand in a text.
use Rattle.std.specs.Prelude.{◌≡◌, ℕ, ℤ, ◌+◌, ◌-◌, ◌*◌, ◌%◌, ◌^◌, ◌<◌, Bool, false, List, [], ◌∷◌, ◌++◌, if◌then◌else◌, decimal}
use Rattle.std.specs.Char.{is_ascii_digit}
use Rattle.std.specs.Fmt.{signed_decimal}
use lib.Signed.{mag}

-- a digit behind a number, modulo 2 ^ 64
abbrev pub with_digit : ℕ → ℕ → ℕ
with_digit n digit = (n * 10 % 2 ^ 64 + (digit - 48)) % 2 ^ 64

-- the number that digits at the front write behind the digits of n, and the rest
abbrev pub number_from : ℕ → List ℕ → ℕ × List ℕ
number_from n [] = (n, [])
number_from n (b ∷ bs) = if is_ascii_digit b then number_from (with_digit n b) bs else (n, b ∷ bs)

-- the number that the text's first digits write, and what stands behind them
abbrev pub number_at : List ℕ → ℕ × List ℕ
number_at text = number_from 0 text

-- a digit stands in front
abbrev pub begins_digit : List ℕ → Bool
begins_digit [] = false
begins_digit (b ∷ bs) = is_ascii_digit b

-- where a number of 64 bits stands behind the words, and no digit behind it, it is this one, and this is behind it
abbrev pub ReadsNumber : List ℕ → List ℕ → ℕ → List ℕ → Type 0
ReadsNumber text words number behind =
    (n : ℕ) (rest : List ℕ) → n < 2 ^ 64 → begins_digit rest ≡ false → text ≡ words ++ (decimal n ++ rest) → (number ≡ n) × (behind ≡ rest)

-- the same of a number of 32 bits
abbrev pub ReadsSmall : List ℕ → List ℕ → ℕ → List ℕ → Type 0
ReadsSmall text words number behind =
    (n : ℕ) (rest : List ℕ) → n < 2 ^ 32 → begins_digit rest ≡ false → text ≡ words ++ (decimal n ++ rest) → (number ≡ n) × (behind ≡ rest)

-- the same of a number of 64 bits with sign
abbrev pub ReadsSigned : List ℕ → List ℕ → ℤ → List ℕ → Type 0
ReadsSigned text words number behind =
    (x : ℤ) (rest : List ℕ) → mag x < 2 ^ 63 → begins_digit rest ≡ false → text ≡ words ++ (signed_decimal x ++ rest) → (number ≡ x)
    × (behind ≡ rest)

-- where one of these words stands behind others, it is this one, and this is behind it
abbrev pub ReadsWord : {E : Type 0} → (E → List ℕ) → List ℕ → List ℕ → E → List ℕ → Type 0
ReadsWord {E} text_of text words word behind = (e : E) (rest : List ℕ) → text ≡ words ++ (text_of e ++ rest) → (word ≡ e) × (behind ≡ rest)
