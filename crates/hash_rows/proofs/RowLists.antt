-- Lists made row by row, and the values of a table.
use Rattle.std.proofs.Common.{◌≡◌, ◌<◌, ◌+◌, ℕ, ℤ, pos, negsuc, zero, suc, true, inl, inr, List, length, map, fold, refl, sym, ap, ap₂, ◌∙◌, arith}
use Rattle.std.specs.Int.{int_min}
use Rattle.std.specs.List.{range_with_len}
use Rattle.std.proofs.lemmas.Bool.{cases_lt}
use Rattle.std.proofs.lemmas.List.{get_or_past}
use Rattle.std.proofs.lemmas.List.FromFn.{map-range_with_len_more}
use Rattle.std.proofs.lemmas.List.Sums.{fold_push}
use Rattle.hash_rows.specs.Rules.{Rules, AreLaws, AreValues}
use Rattle.hash_rows.specs.Sketches.{is_sum, least_of}
use Rattle.hash_rows.specs.Tables.{value_at}

-- one row more
pub row_folded : (combine : ℤ → ℤ → ℤ) (a : ℤ) (f : ℕ → ℤ) (n : ℕ) (so_far value next : ℤ)
    → so_far ≡ fold combine a (map f (range_with_len 0 n)) → value ≡ f n → next ≡ combine so_far value
    → next ≡ fold combine a (map f (range_with_len 0 (n + 1)))
row_folded combine a f n so_far value next before here after =
    after ∙ ap₂ combine before here
    ∙ sym (fold_push combine a (map f (range_with_len 0 n)) (f n))
    ∙ ap (fold combine a) (sym (map-range_with_len_more f 0 n n (omega arith)))

-- the least of some numbers, found from the greatest number on
pub least_from_top : (f : ℕ → ℤ) (n : ℕ) → 0 < n → is_sum (f 0) ≡ true
    → fold int_min (pos 9223372036854775807) (map f (range_with_len 0 n)) ≡ least_of (map f (range_with_len 0 n))
least_from_top f zero some value = absurd (omega arith)
least_from_top f (suc n) some value =
    ap (λ x. fold int_min x (map f (range_with_len (0 + 1) n))) (below_top (f 0) value) where
      below_top : (x : ℤ) → is_sum x ≡ true → int_min (pos 9223372036854775807) x ≡ x
      below_top (pos n) h = grind arith
      below_top (negsuc n) h = refl

-- what a list of values has at any place is a value
pub value_at_any : (r : Rules) → AreLaws r → (cells : List ℤ) (cell : ℕ) → AreValues r cells → r.is_value (value_at cells cell) ≡ true
value_at_any r laws cells cell values = elim (cases_lt cell (length cells)) [
  | inl within ↦ values cell (pos 0) within
  | inr past ↦ ap r.is_value (get_or_past cells cell (pos 0) past) ∙ laws.zero_value
]
