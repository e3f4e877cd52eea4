-- Numbers without a sign or a leading zero.
use Rattle.std.proofs.Common.{◌≡◌, ◌∙◌, ◌≢◌, ◌<◌, ◌≤◌, ◌+◌, ◌-◌, ◌*◌, ◌^◌, ◌⊎◌, ℕ, zero, suc, refl, sym, ap, ap₂, subst, true, false, true≢false, eq-eqb, Bool, not, ◌&&◌, List, [], ◌∷◌, length, get_or, arith, rules, Result, Ok, Err, inl, inr}
use Rattle.std.specs.Fmt.{decimal}
use Rattle.std.specs.Str.{all_ascii_digits}
use Rattle.std.specs.Str.Parse.{ParsesUnsigned}
use Rattle.std.proofs.lemmas.Str.Parse.{IsNumeralModel, numerals_by_fold, parse_plain}
use Rattle.std.proofs.lemmas.Fmt.{decimal-digits_value, decimal_digit, first_decimal, parse-decimal}
use Rattle.words.specs.Grammar.{Text}
use Rattle.std.specs.Prelude.{◌==◌}
use Rattle.std.specs.Result.{OkIff}
use Rattle.words.specs.Values.{IsNumberIn}
use Rattle.words.specs.Forms.{is_plain}
use Rattle.words.proofs.Texts.{and_both, not_true}

abbrev read_on : ℕ → List ℕ → ℕ
read_on n [] = n
read_on n (c ∷ cs) = read_on (10 * n + (c - 48)) cs

own : IsNumeralModel (λ ds. all_ascii_digits ds ≡ true) (read_on 0)
own = numerals_by_fold _ (search rules) read_on (search rules)

-- the first byte is no sign, and no zero before another byte
plain_facts : (bs : Text) → is_plain bs ≡ true → (get_or bs 0 0 ≢ 43) × (get_or bs 0 0 ≡ 48 → length bs ≡ 1)
plain_facts [] e = absurd (true≢false (sym e))
plain_facts (x ∷ []) e = ((λ h. true≢false (sym (eq-eqb x 43 h) ∙ not_true _ e)), λ h. refl)
plain_facts (x ∷ y ∷ ys) e =
    let p = and_both _ _ e in
    ((λ h. true≢false (sym (eq-eqb x 43 h) ∙ not_true _ p.0)), λ h. absurd (true≢false (sym (eq-eqb x 48 h) ∙ not_true _ p.1)))

not_equal : (x k : ℕ) → k < x → (x == k) ≡ false
not_equal x k lt = grind arith

first_plain : (bs : Text) → 48 < get_or bs 0 0 → is_plain bs ≡ true
first_plain [] h = absurd (omega arith)
first_plain (x ∷ []) h = ap not (not_equal x 43 (omega arith))
first_plain (x ∷ y ∷ ys) h = ap₂ (λ (a b : Bool). not a && not b) (not_equal x 43 (omega arith)) (not_equal x 48 h)

number_is_plain : (n : ℕ) (bs : Text) → n < 2 ^ 64 → bs ≡ decimal n → is_plain bs ≡ true
number_is_plain zero bs lt e = ap is_plain (e ∙ decimal_digit 0 (omega arith))
number_is_plain (suc n) bs lt e = first_plain bs (subst (λ (t : Text). 48 < get_or t 0 0) (sym e) (first_decimal (suc n) (omega arith) lt))

pub not_plain : (low high : ℕ) (bs : Text) → high < 2 ^ 64 → is_plain bs ≡ false → (n : ℕ) → IsNumberIn low high bs n → ⊥
not_plain low high bs fits bad n is = true≢false (sym (number_is_plain n bs (omega arith) is.0) ∙ bad)

module _ {E : Type 0} where
  is_ok : Result ℕ E → Bool
  is_ok (Ok n) = true
  is_ok (Err e) = false

  ok_or : ℕ → Result ℕ E → ℕ
  ok_or d (Ok n) = n
  ok_or d (Err e) = d

  pub parsed_number : (low high n : ℕ) (bs : Text) (r : Result ℕ E) → ParsesUnsigned 64 10 bs r → r ≡ Ok n → is_plain bs ≡ true → low ≤ n → n ≤ high → IsNumberIn low high bs n
  parsed_number low high n bs r h is plain above below =
      let facts = plain_facts bs plain in
      let ok = subst (λ (q : Result ℕ E). OkIff q ((all_ascii_digits bs ≡ true) × (0 < length bs) × (read_on 0 bs < 2 ^ 64)) (read_on 0 bs)) is (parse_plain own 64 bs r h facts.0) in
      (sym (decimal-digits_value own bs ok.0.0 ok.0.1 facts.1 ok.0.2) ∙ ap decimal (sym ok.1), above, below)

  pub not_parsed : (low high : ℕ) (bs : Text) (r : Result ℕ E) (e : E) → high < 2 ^ 64 → ParsesUnsigned 64 10 bs r → r ≡ Err e → (n : ℕ) → IsNumberIn low high bs n → ⊥
  unfolding is_ok
  not_parsed low high bs r e fits h err n is = true≢false (ap is_ok (sym (parse-decimal 64 n bs r (omega arith) (omega arith) is.0 h) ∙ err))

  pub not_in_range : (low high m : ℕ) (bs : Text) (r : Result ℕ E) → high < 2 ^ 64 → ParsesUnsigned 64 10 bs r → r ≡ Ok m → (m < low) ⊎ (high < m) → (n : ℕ) → IsNumberIn low high bs n → ⊥
  unfolding ok_or
  not_in_range low high m bs r fits h ok out n is =
      let same : m ≡ n = ap (ok_or 0) (sym ok ∙ parse-decimal 64 n bs r (omega arith) (omega arith) is.0 h) in
      elim out [ inl a ↦ absurd (omega arith) | inr a ↦ absurd (omega arith) ]
