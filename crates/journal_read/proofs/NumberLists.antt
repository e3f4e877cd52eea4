-- Lists of numbers at the front of a text.
use Rattle.std.proofs.Common.{◌≡◌, ◌∙◌, ℕ, ℤ, ◌+◌, ◌^◌, ◌<◌, ◌≤◌, false, List, [], ◌∷◌, ◌++◌, refl, sym, ap, ap₂, arith, append_assoc, get_or, set, take, drop, length, codes}
use Rattle.std.specs.Fmt.{decimal, signed_decimal}
use Rattle.std.specs.Prelude.{All}
use Rattle.std.specs.List.{flat_map}
use Rattle.std.proofs.lemmas.List.Elements.{All-get_or}
use Rattle.std.proofs.lemmas.List.{take_all, take_more, take_more_set, length-set, drop_more, drop_all}
use lib.Signed.{mag}
use Rattle.octo_text.specs.JournalText.{spaced, spaced_signed}
use Rattle.journal_read.specs.Numbers.{begins_digit}

-- each number's text is a space and then a number
module _ {X : Type 0} (text_of : X → List ℕ) (digits : X → List ℕ) (Fits : X → Type 0) (spaces : (x : X) → text_of x ≡ 32 ∷ digits x) where
  fits_at : (xs : List X) → All Fits xs → (i : ℕ) (d : X) → i < length xs → Fits (get_or xs i d)
  fits_at xs fit i d within = All-get_or Fits xs i d within fit

  -- no digit stands before a list of numbers
  pub no_digit : (xs : List X) (rest : List ℕ) → begins_digit rest ≡ false → begins_digit (flat_map text_of xs ++ rest) ≡ false
  no_digit [] rest stop = stop
  no_digit (x ∷ xs) rest stop = ap (λ (t : List ℕ). begins_digit ((t ++ flat_map text_of xs) ++ rest)) (spaces x)

  -- the first so many are read, and the others stand in what is left
  pub record Filled (text : List ℕ) (into : List X) (left : List ℕ) (place : ℕ) : Type 0 where
    pub filled : (xs : List X) (rest : List ℕ) → length xs ≡ length into → All Fits xs → begins_digit rest ≡ false → text ≡ flat_map text_of xs ++ rest
        → (take place into ≡ take place xs) × (left ≡ flat_map text_of (drop place xs) ++ rest)

  pub filled_none : (text : List ℕ) (into : List X) → Filled text into text 0
  filled_none text into = record { filled = λ xs rest long fit stop is. (refl, is) }

  pub filled_more : (text : List ℕ) (into new : List X) (left behind : List ℕ) (number d : X) (place next : ℕ) → Filled text into left place → place < length into
      → next ≡ place + 1 → new ≡ set into place number
      → ((x : X) (rest : List ℕ) → Fits x → begins_digit rest ≡ false → left ≡ codes " " ++ (digits x ++ rest) → (number ≡ x) × (behind ≡ rest))
      → Filled text new behind next
  filled_more text into new left behind number d place next before lt is put reads = record {
    filled = λ xs rest long fit stop whole.
        let same : length xs ≡ length into = long ∙ ap length put ∙ length-set into place number in
        let was = before.filled xs rest same fit stop whole in
        let within : place < length xs = omega (arith, lt, same) in
        let grouped : left ≡ codes " " ++ (digits (get_or xs place d) ++ (flat_map text_of (drop (place + 1) xs) ++ rest)) =
        was.1
        ∙ ap (λ (ys : List X). flat_map text_of ys ++ rest) (drop_more xs place d within)
        ∙ ap (λ (t : List ℕ). (t ++ flat_map text_of (drop (place + 1) xs)) ++ rest) (spaces (get_or xs place d))
        ∙ append_assoc (32 ∷ digits (get_or xs place d)) (flat_map text_of (drop (place + 1) xs)) rest in
        let read = reads (get_or xs place d) (flat_map text_of (drop (place + 1) xs) ++ rest) (fits_at xs fit place d within) (no_digit (drop (place + 1) xs) rest stop) grouped in (
          ap₂ (λ (k : ℕ) (ys : List X). take k ys) is put
              ∙ take_more_set into place number lt
              ∙ ap₂ (λ (ys : List X) (x : X). ys ++ x ∷ []) was.0 read.0
              ∙ sym (take_more xs place d within)
              ∙ ap (λ (k : ℕ). take k xs) (sym is),
          read.1 ∙ ap (λ (k : ℕ). flat_map text_of (drop k xs) ++ rest) (sym is),
        );
  }

  pub filled_all : (text : List ℕ) (into : List X) (left : List ℕ) (place : ℕ) → Filled text into left place → length into ≤ place
      → (xs : List X) (rest : List ℕ) → length xs ≡ length into → All Fits xs → begins_digit rest ≡ false → text ≡ flat_map text_of xs ++ rest → (into ≡ xs) × (left ≡ rest)
  filled_all text into left place all end xs rest long fit stop is =
      let parts = all.filled xs rest long fit stop is in (
        sym (take_all place into end) ∙ parts.0 ∙ take_all place xs (omega (arith, long, end)),
        parts.1 ∙ ap (λ (ys : List X). flat_map text_of ys ++ rest) (drop_all place xs (omega (arith, long, end))),
      )

pub spaced_is : (n : ℕ) → spaced n ≡ 32 ∷ decimal n
unfolding spaced
spaced_is n = refl

pub spaced_signed_is : (x : ℤ) → spaced_signed x ≡ 32 ∷ signed_decimal x
unfolding spaced_signed
spaced_signed_is x = refl

-- lists of numbers, and of those with sign
abbrev pub NumbersFilled : List ℕ → List ℕ → List ℕ → ℕ → Type 0
NumbersFilled = Filled spaced decimal (λ n. n < 2 ^ 64) spaced_is

abbrev pub EstimatesFilled : List ℕ → List ℤ → List ℕ → ℕ → Type 0
EstimatesFilled = Filled spaced_signed signed_decimal (λ x. mag x < 2 ^ 63) spaced_signed_is
