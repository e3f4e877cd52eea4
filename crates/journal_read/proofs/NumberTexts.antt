-- Numbers at the front of a text.
use Rattle.std.proofs.Common.{◌≡◌, ◌∙◌, ℕ, ℤ, pos, negsuc, suc, ◌+◌, ◌*◌, ◌/◌, ◌%◌, ◌^◌, ◌<◌, ◌≤◌, Bool, true, false, List, [], ◌∷◌, ◌++◌, refl, sym, ap, arith, if◌then◌else◌, append_assoc, get_or, drop, length, codes}
use lib.Signed.{mag}
use Rattle.std.specs.Fmt.{decimal, signed_decimal}
use Rattle.std.specs.Char.{is_ascii_digit}
use Rattle.std.proofs.lemmas.Fmt.{decimal_by_steps}
use Rattle.std.proofs.Math.Seq.{drop-append_seam}
use Rattle.journal_read.specs.Numbers.{number_at, number_from, with_digit, begins_digit}

stops : (n : ℕ) (rest : List ℕ) → begins_digit rest ≡ false → number_from n rest ≡ (n, rest)
stops n [] stop = refl
stops n (b ∷ bs) stop = ap (λ (d : Bool). if d then number_from (with_digit n b) bs else (n, b ∷ bs)) stop

is_digit : (d : ℕ) → d < 10 → is_ascii_digit (48 + d) ≡ true
is_digit d small = grind arith

goes_on : (n d : ℕ) (rest : List ℕ) → d < 10 → n * 10 + d < 2 ^ 64 → number_from n ((48 + d) ∷ rest) ≡ number_from (n * 10 + d) rest
goes_on n d rest small fits =
    ap (λ (t : Bool). if t then number_from (with_digit n (48 + d)) rest else (n, (48 + d) ∷ rest)) (is_digit d small)
    ∙ ap (λ (m : ℕ). number_from m rest) value
  where
    value : with_digit n (48 + d) ≡ n * 10 + d
    value = omega (arith, fits)

-- digits go on with a number
abbrev GoesOn : ℕ → List ℕ → Type 0
GoesOn n ds = n < 2 ^ 64 → (rest : List ℕ) → number_from 0 (ds ++ rest) ≡ number_from n rest

one : (n : ℕ) → n < 10 → GoesOn n ((48 + n) ∷ [])
one n small fits rest =
    let whole : 0 * 10 + n ≡ n = omega arith in
    goes_on 0 n rest small (omega (arith, fits)) ∙ ap (λ (m : ℕ). number_from m rest) whole

more : (n : ℕ) (ds : List ℕ) → 10 ≤ n → GoesOn (n / 10) ds → GoesOn n (ds ++ ((48 + n % 10) ∷ []))
more n ds big before fits rest =
    let least : n / 10 < 2 ^ 64 = omega (arith, fits) in
    let last : n % 10 < 10 = omega arith in
    let whole : n / 10 * 10 + n % 10 ≡ n = omega arith in
    ap (number_from 0) (append_assoc ds ((48 + n % 10) ∷ []) rest)
    ∙ before least ((48 + n % 10) ∷ rest)
    ∙ goes_on (n / 10) (n % 10) rest last (omega (arith, whole, fits))
    ∙ ap (λ (m : ℕ). number_from m rest) whole

pub number_is : (n : ℕ) (rest : List ℕ) → n < 2 ^ 64 → begins_digit rest ≡ false → number_at (decimal n ++ rest) ≡ (n, rest)
number_is n rest fits stop = decimal_by_steps GoesOn one more n fits fits rest ∙ stops n rest stop

-- the number behind some words, as the code takes it
pub number_behind : (text words back : List ℕ) (number : ℕ) (behind : List ℕ) (n : ℕ) (rest : List ℕ) → back ≡ drop (length words) text
    → number ≡ (number_at back).0 → behind ≡ (number_at back).1 → n < 2 ^ 64 → begins_digit rest ≡ false → text ≡ words ++ (decimal n ++ rest)
    → (number ≡ n) × (behind ≡ rest)
number_behind text words back number behind n rest skipped first second fits stop is =
    let at : back ≡ decimal n ++ rest = skipped ∙ ap (drop (length words)) is ∙ drop-append_seam words (decimal n ++ rest) in
    let read : number_at back ≡ (n, rest) = ap number_at at ∙ number_is n rest fits stop in
    (first ∙ ap (λ (p : ℕ × List ℕ). p.0) read, second ∙ ap (λ (p : ℕ × List ℕ). p.1) read)

-- the front of a number
pub no_minus : (n : ℕ) (rest : List ℕ) → n < 2 ^ 64 → get_or (decimal n ++ rest) 0 0 ≡ 45 → ⊥
no_minus n rest fits minus =
    decimal_by_steps (λ (m : ℕ) (ds : List ℕ). (rest : List ℕ) → get_or (ds ++ rest) 0 0 ≡ 45 → ⊥)
    (λ m small rest minus. absurd (omega arith))
    (λ m ds big before rest minus. before (((48 + m % 10) ∷ []) ++ rest) (ap (λ (t : List ℕ). get_or t 0 0) (sym (append_assoc ds ((48 + m % 10) ∷ []) rest)) ∙ minus))
    n fits rest minus

-- a text that begins with a minus has a number below 0
pub minus_is : (text : List ℕ) (x : ℤ) (rest : List ℕ) → mag x < 2 ^ 63 → text ≡ signed_decimal x ++ rest → get_or text 0 0 ≡ 45
    → (n : ℕ) × (x ≡ negsuc n) × (n < 2 ^ 63) × (text ≡ codes "-" ++ (decimal (suc n) ++ rest))
minus_is text (pos n) rest small is minus = absurd (no_minus n rest (omega (arith, small)) (ap (λ (t : List ℕ). get_or t 0 0) (sym is) ∙ minus))
minus_is text (negsuc n) rest small is minus = (n, refl, small, is)
