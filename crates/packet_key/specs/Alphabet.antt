-- The bytes that the text of a key is made of.
use Rattle.std.specs.Prelude.{◌≡◌, ◌≢◌, ℕ, Bool, true, ◌==◌, ◌&&◌, ◌||◌, nat_le, List, All}

-- `0` to `9` and `:`, which follows them in ASCII, `a` to `f`, `.`, `[` or `]`
abbrev pub is_end_byte : ℕ → Bool
is_end_byte b = (nat_le 48 b && nat_le b 58) || (nat_le 97 b && nat_le b 102) || (b == 46) || (b == 91) || (b == 93)

-- one of these, or `>` or `/`
abbrev pub is_key_byte : ℕ → Bool
is_key_byte b = is_end_byte b || (b == 62) || (b == 47)

-- the byte does not stand in the text
abbrev pub Lacks : ℕ → List ℕ → Type 0
Lacks byte text = All (λ b. b ≢ byte) text

-- each byte of the text passes the test
abbrev pub IsOf : (ℕ → Bool) → List ℕ → Type 0
IsOf test text = All (λ b. test b ≡ true) text
