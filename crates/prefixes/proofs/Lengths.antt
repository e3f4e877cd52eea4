-- How long the numbers of a text are.
use Rattle.std.proofs.Common.{◌≡◌, ◌∙◌, ℕ, ◌<◌, ◌≤◌, List, length, take, decimal, sym, ap, arith, length-take-le}
use Rattle.prefixes.specs.Networks.{IsLength}
use Rattle.std.proofs.lemmas.Fmt.{length-decimal-le}

pub byte_is_short : (n : ℕ) → n < 256 → length (decimal n) ≤ 3
byte_is_short n small = length-decimal-le 3 n (omega arith) (omega arith) (omega arith)

pub length_of_front : (xs text : List ℕ) (n : ℕ) → take n xs ≡ text → n ≤ length xs → n ≡ length text
length_of_front xs text n is fits = sym (length-take-le n xs fits) ∙ ap length is

pub length_is_short : (n : ℕ) → IsLength n → length (decimal n) ≤ 2
length_is_short n is = let small : n < 100 = grind (arith, is) in length-decimal-le 2 n (omega arith) (omega arith) (omega arith)
