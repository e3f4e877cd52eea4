-- Cells that are copied one after another over others.
use Rattle.std.proofs.Common.{◌≡◌, ◌≢◌, ◌<◌, ◌+◌, ℕ, ℤ, pos, true, List, length, get_or, set, sym, ap, ◌∙◌, subst, arith, length-set, inl, inr}
use Rattle.std.proofs.lemmas.Bool.{cases_eq}
use Rattle.std.proofs.lemmas.List.{get_or-set_same, get_or-set_other}
use Rattle.hash_rows.specs.Rules.{Rules, AreLaws}
use Rattle.hash_rows.specs.Tables.{joined_at}

-- the first n cells are those of the other list
abbrev pub AreFirst : List ℤ → List ℤ → ℕ → Type 0
AreFirst from into n = (k : ℕ) → k < n → get_or into k (pos 0) ≡ get_or from k (pos 0)

pub first_more : (r : Rules) → AreLaws r → (from old new : List ℤ) (n : ℕ) (a : ℤ) → n < length old → a ≡ get_or from n (pos 0) → r.is_value a ≡ true
    → new ≡ joined_at r.join (set old n (pos 0)) n a → AreFirst from old n → AreFirst from new (n + 1)
first_more r laws from old new n a inside is value now h k lt =
    let zero = set old n (pos 0) in
    let y = r.join (get_or zero n (pos 0)) a in
    let long : n < length zero = omega (arith, inside, length-set old n (pos 0)) in
    elim (cases_eq n k) [
      | inl e ↦ subst (λ (j : ℕ). get_or new j (pos 0) ≡ get_or from j (pos 0)) e (ap (λ (l : List ℤ). get_or l n (pos 0)) now ∙ get_or-set_same zero n y (pos 0) long
          ∙ ap (λ (z : ℤ). r.join z a) (get_or-set_same old n (pos 0) (pos 0) inside) ∙ laws.join_zero a value ∙ is)
      | inr ne ↦ (let apart : k ≢ n = λ e. ne (sym e) in
          ap (λ (l : List ℤ). get_or l k (pos 0)) now ∙ get_or-set_other zero n k y (pos 0) apart ∙ get_or-set_other old n k (pos 0) (pos 0) apart ∙ h k (omega (arith, lt, ne)))
    ]
