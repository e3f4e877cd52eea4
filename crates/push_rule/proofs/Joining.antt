-- Residues of workers, joined into a table.
use Rattle.std.proofs.Common.{◌≡◌, ◌<◌, ◌≤◌, ℕ, ℤ, pos, ◌+◌, List, [], ◌∷◌, length, set, sym, ap, ap₂, ◌∙◌, subst, arith, inl, inr}
use Rattle.std.specs.Prelude.{fold, map}
use Rattle.std.specs.List.{range_with_len}
use Rattle.std.proofs.lemmas.Bool.{cases_lt}
use Rattle.std.proofs.lemmas.List.{get_or-set_same, get_or-set_other}
use Rattle.std.proofs.lemmas.List.FromFn.{map-range_with_len_more}
use Rattle.std.proofs.lemmas.List.Sums.{fold-append}
use Rattle.hash_rows.specs.Tables.{value_at}
use Rattle.push_rule.specs.Residues.{HasJoined}

-- one cell more is joined
pub cell_more : (join : ℤ → ℤ → ℤ) (old cells new : List ℤ) (n : ℕ) (f : ℕ → ℤ) (z : ℤ) → n < length cells → new ≡ set cells n (join (value_at cells n) z) → z ≡ f n
    → ((c : ℕ) → c < n → value_at cells c ≡ join (value_at old c) (f c)) → ((c : ℕ) → n ≤ c → value_at cells c ≡ value_at old c)
    → ((c : ℕ) → c < n + 1 → value_at new c ≡ join (value_at old c) (f c))
cell_more join old cells new n f z lt is at before behind c below = elim (cases_lt c n) [
  | inl early ↦
      ap (λ (l : List ℤ). value_at l c) is ∙ get_or-set_other cells n c (join (value_at cells n) z) (pos 0) (λ same. omega (arith, same, early)) ∙ before c early
  | inr late ↦
      let same : c ≡ n = omega (arith, late, below) in
      subst (λ k. value_at new k ≡ join (value_at old k) (f k)) (sym same)
      (ap (λ (l : List ℤ). value_at l n) is ∙ get_or-set_same cells n (join (value_at cells n) z) (pos 0) lt ∙ ap₂ join (behind n (omega arith)) at)
]

-- the cells behind it are as they were
pub cell_kept : (old cells new : List ℤ) (n : ℕ) (y : ℤ) → new ≡ set cells n y → ((c : ℕ) → n ≤ c → value_at cells c ≡ value_at old c) → (c : ℕ) → n + 1 ≤ c → value_at new c ≡ value_at old c
cell_kept old cells new n y is behind c past =
    ap (λ (l : List ℤ). value_at l c) is ∙ get_or-set_other cells n c y (pos 0) (λ same. omega (arith, same, past)) ∙ behind c (omega (arith, past))

-- one worker more is joined
pub joined_more : (join : ℤ → ℤ → ℤ) (left : ℕ → ℕ → ℤ) (n size : ℕ) (old cells new : List ℤ) → HasJoined join left n size old cells
    → ((c : ℕ) → c < size → value_at new c ≡ join (value_at cells c) (left n c)) → HasJoined join left (n + 1) size old new
joined_more join left n size old cells new joined more c lt =
    let f : ℕ → ℤ = λ w. left w c in
    more c lt ∙ ap (λ z. join z (f n)) (joined c lt)
    ∙ sym (fold-append join (value_at old c) (map f (range_with_len 0 n)) (f n ∷ []))
    ∙ ap (λ l. fold join (value_at old c) l) (sym (map-range_with_len_more f 0 n n (omega arith)))
