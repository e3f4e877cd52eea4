-- A line has one line feed, at its end, and room for 1,024 bytes is enough for it.
use Rattle.std.proofs.Common.{◌≡◌, ◌≢◌, ℕ, ℤ, pos, negsuc, suc, ◌+◌, ◌*◌, ◌^◌, ◌<◌, ◌≤◌, ◌==◌, ◌&&◌, Bool, true, false, true≢false, not, List, [], ◌∷◌, ◌++◌, length, length-append, decimal, refl, sym, arith, codes}
use Rattle.std.specs.Prelude.{All}
use Rattle.std.specs.Fmt.{signed_decimal}
use Rattle.std.specs.List.{flat_map}
use Rattle.std.proofs.lemmas.Fmt.{decimal_is_IsNumeral, length-decimal-le}
use Rattle.std.proofs.lemmas.List.Elements.{All-nil, All-cons, All-append, All-head, All-tail, All-from_get_or}
use Rattle.std.proofs.lemmas.Str.Parse.{digit_at}
use lib.Signed.{mag}
use Rattle.flow_base.specs.LinesRead.{HasNoFeed}
use Rattle.push_history.specs.Answers.{AnswerParts}
use Rattle.octo_text.specs.Lines.{words_line, count_line}
use Rattle.octo_text.specs.JournalText.{worker_line, run_line, answer_line, spaced, spaced_signed}

-- at most so many bytes, and no line feed
pub record Piece (n : ℕ) (xs : List ℕ) : Type 0 where
  pub clear : HasNoFeed xs
  pub most : length xs ≤ n

pub both : {n m : ℕ} {xs ys : List ℕ} → Piece n xs → Piece m ys → Piece (n + m) (xs ++ ys)
both {n} {m} {xs} {ys} p q = record { clear = All-append (λ b. b ≢ 10) xs ys p.clear q.clear; most = omega (arith, length-append xs ys, p.most, q.most) }

pub wider : {n : ℕ} {xs : List ℕ} (m : ℕ) → Piece n xs → n ≤ m → Piece m xs
wider m p le = record { clear = p.clear; most = omega (arith, p.most, le) }

-- words that are written out
abbrev is_clear : List ℕ → Bool
is_clear [] = true
is_clear (b ∷ bs) = not (b == 10) && is_clear bs

clear_words : (xs : List ℕ) → is_clear xs ≡ true → HasNoFeed xs
clear_words [] test = All-nil (λ b. b ≢ 10)
clear_words (x ∷ xs) test = by_test (x == 10) refl test (clear_words xs)
  where
    by_test : (t : Bool) → (x == 10) ≡ t → (not t && is_clear xs) ≡ true → (is_clear xs ≡ true → HasNoFeed xs) → HasNoFeed (x ∷ xs)
    by_test true at test rest = absurd (true≢false (sym test))
    by_test false at test rest = let apart : x ≢ 10 = (λ same. grind arith) in All-cons (λ b. b ≢ 10) x xs apart (rest test)

pub word : (xs : List ℕ) → is_clear xs ≡ true → Piece (length xs) xs
word xs test = record { clear = clear_words xs test; most = omega arith }

no_feed : (c : ℕ) → 48 ≤ c → c ≢ 10
no_feed c low same = omega (arith, low, same)

pub number : (k n : ℕ) → 0 < k → n < 10 ^ k → n < 2 ^ 64 → Piece k (decimal n)
number k n some few fits = record {
  clear = All-from_get_or (λ b. b ≢ 10) (decimal n) 0 (λ i h. let digit = digit_at (decimal n) i (decimal_is_IsNumeral n fits).0.1 h in no_feed _ (omega arith));
  most = length-decimal-le k n some few fits;
}

pub wide : (n : ℕ) → n < 2 ^ 64 → Piece 20 (decimal n)
wide n fits = number 20 n (omega arith) (omega (arith, fits)) fits

pub signed : (x : ℤ) → mag x < 2 ^ 63 → Piece 21 (signed_decimal x)
signed (pos n) small = wider 21 (wide n (omega (arith, small))) (omega arith)
signed (negsuc n) small = both (word (codes "-") refl) (wide (suc n) (omega (arith, small)))

-- a list of pieces
pub pieces : {X : Type 0} (text : X → List ℕ) (Fits : X → Type 0) (n : ℕ) → ((x : X) → Fits x → Piece n (text x)) → (xs : List X) → All Fits xs
    → Piece (length xs * n) (flat_map text xs)
pieces text Fits n each [] fit = record { clear = All-nil (λ b. b ≢ 10); most = omega arith }
pieces text Fits n each (x ∷ xs) fit =
    wider (length (x ∷ xs) * n) (both (each x (All-head Fits x xs fit)) (pieces text Fits n each xs (All-tail Fits x xs fit))) (omega arith)

-- a line of such a piece
pub record HasEnd (line : List ℕ) : Type 0 where
  pub body : List ℕ
  pub is : line ≡ body ++ 10 ∷ []
  pub piece : Piece 1000 body

pub ends : {n : ℕ} {xs : List ℕ} → Piece n xs → n ≤ 1000 → HasEnd (xs ++ 10 ∷ [])
ends {n} {xs} p le = record { body = xs; is = refl; piece = wider 1000 p le }

pub head_end : HasEnd (words_line (codes "octosketch journal 1"))
unfolding words_line
head_end = ends (word (codes "octosketch journal 1") refl) (omega arith)

pub last_end : HasEnd (words_line (codes "end"))
unfolding words_line
last_end = ends (word (codes "end") refl) (omega arith)

pub worker_end : (w p r : ℕ) → w < 2 ^ 64 → p < 2 ^ 64 → r < 2 ^ 64 → HasEnd (worker_line w p r)
unfolding worker_line
worker_end w p r fit₁ fit₂ fit₃ =
    ends (both (both (both (both (both (word (codes "worker ") refl) (wide w fit₁)) (word (codes " pushes ") refl)) (wide p fit₂)) (word (codes " refused ") refl)) (wide r fit₃))
    (omega arith)

pub run_end : (w a b : ℕ) → w < 2 ^ 64 → a < 2 ^ 64 → b < 2 ^ 64 → HasEnd (run_line w (a, b))
unfolding run_line
run_end w a b fit₁ fit₂ fit₃ =
    ends (both (both (both (both (both (word (codes "refused ") refl) (wide w fit₁)) (word (codes " ") refl)) (wide a fit₂)) (word (codes "-") refl)) (wide b fit₃))
    (omega arith)

pub missed_end : (n : ℕ) → n < 2 ^ 64 → HasEnd (count_line (codes "missed") n)
unfolding count_line
missed_end n fits = ends (both (both (word (codes "missed") refl) (word (codes " ") refl)) (wide n fits)) (omega arith)

front_number : (n : ℕ) → n ≤ 2 ^ 27 → Piece 10 (spaced n)
unfolding spaced
front_number n small = both (word (codes " ") refl) (number 9 n (omega arith) (omega (arith, small)) (omega (arith, small)))

shown_number : (x : ℤ) → mag x < 2 ^ 63 → Piece 22 (spaced_signed x)
unfolding spaced_signed
shown_number x small = both (word (codes " ") refl) (signed x small)

pub answer_end : (a : AnswerParts) → a.reader < 2 ^ 64 → a.number < 2 ^ 64 → a.folded < 2 ^ 64 → All (λ n. n ≤ 2 ^ 27) a.front → All (λ x. mag x < 2 ^ 63) a.shown
    → length a.front ≤ 16 → length a.shown ≤ 16 → HasEnd (answer_line a)
unfolding answer_line
answer_end a fit₁ fit₂ fit₃ front shown few₁ few₂ =
    let fronts = wider 160 (pieces spaced (λ n. n ≤ 2 ^ 27) 10 front_number a.front front) (omega (arith, few₁)) in
    let estimates = wider 352 (pieces spaced_signed (λ x. mag x < 2 ^ 63) 22 shown_number a.shown shown) (omega (arith, few₂)) in
    let reader = both (word (codes "answer ") refl) (wide a.reader fit₁) in
    let numbered = both (both reader (word (codes " ") refl)) (wide a.number fit₂) in
    let folded = both (both numbered (word (codes " folded ") refl)) (wide a.folded fit₃) in
    let given = both (both folded (word (codes " front") refl)) fronts in
    ends (both (both given (word (codes " shown") refl)) estimates) (omega arith)
