-- Two texts that are one have the same numbers and words at their front.
use Rattle.std.proofs.Common.{◌≡◌, ◌≢◌, ◌∙◌, ℕ, ℤ, pos, negsuc, suc, ◌^◌, ◌<◌, false, List, [], ◌∷◌, ◌++◌, refl, sym, ap, ap₂, drop, length, get_or, arith, append_assoc}
use Rattle.std.specs.Prelude.{All}
use Rattle.std.specs.Fmt.{decimal, signed_decimal}
use Rattle.std.specs.List.{flat_map}
use Rattle.std.proofs.lemmas.List.Elements.{All-head, All-tail}
use lib.Signed.{mag}
use Rattle.hash_rows.specs.declared.options.Amount.{Amount}
use Rattle.hash_rows.specs.declared.options.Amount.TheVariants.{Packets, Bytes}
use Rattle.hash_rows.specs.declared.options.Full.{Full}
use Rattle.hash_rows.specs.declared.options.Full.TheVariants.{Leave, Wait}
use Rattle.hash_rows.specs.declared.options.Mode.{Mode}
use Rattle.hash_rows.specs.declared.options.Mode.TheVariants.{Rounds, Threads}
use Rattle.hash_rows.specs.declared.options.Share.{Share}
use Rattle.hash_rows.specs.declared.options.Share.TheVariants.{Turn, Key}
use Rattle.hash_rows.specs.declared.options.Sketch.{Sketch}
use Rattle.hash_rows.specs.declared.options.Sketch.TheVariants.{CountMin, CountSketch, LogLog}
use Rattle.hash_rows.specs.OptionTexts.{sketch_text, amount_text, share_text, full_text, mode_text}
use Rattle.octo_text.specs.JournalText.{spaced, spaced_signed}
use Rattle.journal_read.specs.Numbers.{number_at, begins_digit}
use Rattle.journal_read.proofs.NumberTexts.{number_is, no_minus}
use Rattle.journal_read.proofs.NumberLists.{no_digit, spaced_is, spaced_signed_is}
use Rattle.journal_read.proofs.WordTexts.{sketch_loglog, sketch_min, sketch_count, amount_packets, amount_bytes, share_turn, share_key, full_leave, full_wait, mode_rounds, mode_threads}

pub number_cut : (n m : ℕ) (x y : List ℕ) → n < 2 ^ 64 → m < 2 ^ 64 → begins_digit x ≡ false → begins_digit y ≡ false
    → decimal n ++ x ≡ decimal m ++ y → (n ≡ m) × (x ≡ y)
number_cut n m x y fits₁ fits₂ stop₁ stop₂ is =
    let same : (n, x) ≡ (m, y) = sym (number_is n x fits₁ stop₁) ∙ ap number_at is ∙ number_is m y fits₂ stop₂ in
    (ap (λ (p : ℕ × List ℕ). p.0) same, ap (λ (p : ℕ × List ℕ). p.1) same)

pub signed_cut : (n m : ℤ) (x y : List ℕ) → mag n < 2 ^ 63 → mag m < 2 ^ 63 → begins_digit x ≡ false → begins_digit y ≡ false
    → signed_decimal n ++ x ≡ signed_decimal m ++ y → (n ≡ m) × (x ≡ y)
signed_cut (pos n) (pos m) x y fits₁ fits₂ stop₁ stop₂ is =
    let same = number_cut n m x y (omega (arith, fits₁)) (omega (arith, fits₂)) stop₁ stop₂ is in
    (ap pos same.0, same.1)
signed_cut (pos n) (negsuc m) x y fits₁ fits₂ stop₁ stop₂ is = absurd (no_minus n x (omega (arith, fits₁)) (ap (λ (t : List ℕ). get_or t 0 0) is))
signed_cut (negsuc n) (pos m) x y fits₁ fits₂ stop₁ stop₂ is = absurd (no_minus m y (omega (arith, fits₂)) (ap (λ (t : List ℕ). get_or t 0 0) (sym is)))
signed_cut (negsuc n) (negsuc m) x y fits₁ fits₂ stop₁ stop₂ is =
    let same = number_cut (suc n) (suc m) x y (omega (arith, fits₁)) (omega (arith, fits₂)) stop₁ stop₂ (ap (drop 1) is) in
    let less : n ≡ m = omega (arith, same.0) in
    (ap negsuc less, same.1)

-- each number's text is a space and then a number
module _ {X : Type 0} (text_of : X → List ℕ) (digits : X → List ℕ) (Fits : X → Type 0) (spaces : (x : X) → text_of x ≡ 32 ∷ digits x) where
  grouped : (x : X) (xs : List X) (a : List ℕ) → (text_of x ++ flat_map text_of xs) ++ a ≡ 32 ∷ (digits x ++ (flat_map text_of xs ++ a))
  grouped x xs a = append_assoc (text_of x) (flat_map text_of xs) a ∙ ap (λ (t : List ℕ). t ++ (flat_map text_of xs ++ a)) (spaces x)

  pub list_cut : ((x y : X) (a b : List ℕ) → Fits x → Fits y → begins_digit a ≡ false → begins_digit b ≡ false → digits x ++ a ≡ digits y ++ b → (x ≡ y) × (a ≡ b))
      → (xs ys : List X) (a b : List ℕ) → length xs ≡ length ys → All Fits xs → All Fits ys → begins_digit a ≡ false → begins_digit b ≡ false
      → flat_map text_of xs ++ a ≡ flat_map text_of ys ++ b → (xs ≡ ys) × (a ≡ b)
  list_cut one [] [] a b long fit₁ fit₂ stop₁ stop₂ is = (refl, is)
  list_cut one [] (y ∷ ys) a b long fit₁ fit₂ stop₁ stop₂ is = absurd (omega (arith, long))
  list_cut one (x ∷ xs) [] a b long fit₁ fit₂ stop₁ stop₂ is = absurd (omega (arith, long))
  list_cut one (x ∷ xs) (y ∷ ys) a b long fit₁ fit₂ stop₁ stop₂ is =
      let first = one x y (flat_map text_of xs ++ a) (flat_map text_of ys ++ b) (All-head Fits x xs fit₁) (All-head Fits y ys fit₂)
      (no_digit text_of digits Fits spaces xs a stop₁) (no_digit text_of digits Fits spaces ys b stop₂)
      (ap (drop 1) (sym (grouped x xs a) ∙ is ∙ grouped y ys b)) in
      let rest = list_cut one xs ys a b (omega (arith, long)) (All-tail Fits x xs fit₁) (All-tail Fits y ys fit₂) stop₁ stop₂ first.1 in
      (ap₂ (λ (z : X) (zs : List X). z ∷ zs) first.0 rest.0, rest.1)

pub numbers_cut : (xs ys : List ℕ) (a b : List ℕ) → length xs ≡ length ys → All (λ n. n < 2 ^ 64) xs → All (λ n. n < 2 ^ 64) ys
    → begins_digit a ≡ false → begins_digit b ≡ false → flat_map spaced xs ++ a ≡ flat_map spaced ys ++ b → (xs ≡ ys) × (a ≡ b)
numbers_cut = list_cut spaced decimal (λ n. n < 2 ^ 64) spaced_is number_cut

pub estimates_cut : (xs ys : List ℤ) (a b : List ℕ) → length xs ≡ length ys → All (λ x. mag x < 2 ^ 63) xs → All (λ x. mag x < 2 ^ 63) ys
    → begins_digit a ≡ false → begins_digit b ≡ false → flat_map spaced_signed xs ++ a ≡ flat_map spaced_signed ys ++ b → (xs ≡ ys) × (a ≡ b)
estimates_cut = list_cut spaced_signed signed_decimal (λ x. mag x < 2 ^ 63) spaced_signed_is signed_cut

pub sketch_cut : (s t : Sketch) (x y : List ℕ) → sketch_text s ++ x ≡ sketch_text t ++ y → (s ≡ t) × (x ≡ y)
unfolding sketch_text
sketch_cut LogLog t x y is = sketch_loglog (sketch_text LogLog ++ x) refl t y is
sketch_cut CountMin t x y is = sketch_min (sketch_text CountMin ++ x) (λ at. absurd (omega (arith, at))) refl t y is
sketch_cut CountSketch t x y is = sketch_count (sketch_text CountSketch ++ x) (λ at. absurd (omega (arith, at))) (λ at. absurd (omega (arith, at))) t y is

pub amount_cut : (s t : Amount) (x y : List ℕ) → amount_text s ++ x ≡ amount_text t ++ y → (s ≡ t) × (x ≡ y)
unfolding amount_text
amount_cut Packets t x y is = amount_packets (amount_text Packets ++ x) refl t y is
amount_cut Bytes t x y is = amount_bytes (amount_text Bytes ++ x) (λ at. absurd (omega (arith, at))) t y is

pub share_cut : (s t : Share) (x y : List ℕ) → share_text s ++ x ≡ share_text t ++ y → (s ≡ t) × (x ≡ y)
unfolding share_text
share_cut Turn t x y is = share_turn (share_text Turn ++ x) refl t y is
share_cut Key t x y is = share_key (share_text Key ++ x) (λ at. absurd (omega (arith, at))) t y is

pub full_cut : (s t : Full) (x y : List ℕ) → full_text s ++ x ≡ full_text t ++ y → (s ≡ t) × (x ≡ y)
unfolding full_text
full_cut Leave t x y is = full_leave (full_text Leave ++ x) refl t y is
full_cut Wait t x y is = full_wait (full_text Wait ++ x) (λ at. absurd (omega (arith, at))) t y is

pub mode_cut : (s t : Mode) (x y : List ℕ) → mode_text s ++ x ≡ mode_text t ++ y → (s ≡ t) × (x ≡ y)
unfolding mode_text
mode_cut Rounds t x y is = mode_rounds (mode_text Rounds ++ x) refl t y is
mode_cut Threads t x y is = mode_threads (mode_text Threads ++ x) (λ at. absurd (omega (arith, at))) t y is

-- a text is cut in one way at its first line feed
pub feed_cut : (xs ys x y : List ℕ) → All (λ b. b ≢ 10) xs → All (λ b. b ≢ 10) ys → xs ++ (10 ∷ x) ≡ ys ++ (10 ∷ y) → (xs ≡ ys) × (x ≡ y)
feed_cut [] [] x y none₁ none₂ is = (refl, cc)
feed_cut [] (b ∷ ys) x y none₁ none₂ is = absurd (All-head (λ b. b ≢ 10) b ys none₂ (cc))
feed_cut (b ∷ xs) [] x y none₁ none₂ is = absurd (All-head (λ b. b ≢ 10) b xs none₁ (cc))
feed_cut (b ∷ xs) (c ∷ ys) x y none₁ none₂ is =
    let heads : b ≡ c = cc in
    let tails : xs ++ (10 ∷ x) ≡ ys ++ (10 ∷ y) = cc in
    let rest = feed_cut xs ys x y (All-tail (λ b. b ≢ 10) b xs none₁) (All-tail (λ b. b ≢ 10) c ys none₂) tails in
    (cc rest.0, rest.1)
