-- Cells that are copied into zeros, one after another.
use Rattle.std.proofs.Common.{◌≡◌, ◌≢◌, ℕ, ℤ, pos, ◌+◌, ◌<◌, ◌≤◌, ◌==◌, Bool, true, false, List, length, get_or, set, refl, ap, ◌∙◌, arith, subst}
use Rattle.std.proofs.lemmas.List.{get_or-set_same, get_or-set_other, get_or-replicate, ext_get_or}
use Rattle.std.proofs.lemmas.Bool.Decides.{nat_tests}
use Rattle.hash_rows.specs.declared.shape.Shape.{Shape}
use Rattle.hash_rows.specs.Rules.{Rules, AreLaws}
use Rattle.hash_rows.specs.Shapes.{size_of}
use Rattle.live_state.specs.Fold.{zero_cells}

-- the first n cells are copied, and the others are zeros
pub record AreCopied (from into : List ℤ) (n : ℕ) : Type 0 where
  pub before : (k : ℕ) → k < n → get_or into k (pos 0) ≡ get_or from k (pos 0)
  pub behind : (k : ℕ) → n ≤ k → k < length from → get_or into k (pos 0) ≡ pos 0

pub none_copied : (from into : List ℤ) (shape : Shape) → into ≡ zero_cells shape → length from ≡ size_of shape → AreCopied from into 0
none_copied from into shape zeros long = record {
  before = λ k lt. absurd (omega arith);
  behind = λ k _ lt. ap (λ l. get_or l k (pos 0)) zeros ∙ get_or-replicate (size_of shape) k (pos 0) (pos 0) (omega (arith, long));
}

pub one_copied : (r : Rules) → AreLaws r → (from into : List ℤ) (n : ℕ) (a : ℤ) → AreCopied from into n → length into ≡ length from → n < length from
    → a ≡ get_or from n (pos 0) → r.is_value a ≡ true → AreCopied from (set into n (r.join (get_or into n (pos 0)) a)) (n + 1)
one_copied r laws from into n a h long inside is value =
    let y = r.join (get_or into n (pos 0)) a in
    let copied : y ≡ get_or from n (pos 0) = ap (λ x. r.join x a) (h.behind n (omega arith) inside) ∙ (laws.join_zero a value ∙ is) in
    let place : n < length into = omega (arith, long) in
    record {
      before = λ k lt. before k lt copied place (n == k) refl;
      behind = λ k le lt. (let apart : k ≢ n = (λ e. absurd (omega (arith, e))) in get_or-set_other into n k y (pos 0) apart ∙ h.behind k (omega arith) lt);
    }
  where
    before : (k : ℕ) → k < n + 1 → r.join (get_or into n (pos 0)) a ≡ get_or from n (pos 0) → n < length into → (b : Bool) → (n == k) ≡ b
        → get_or (set into n (r.join (get_or into n (pos 0)) a)) k (pos 0) ≡ get_or from k (pos 0)
    before k lt copied place true same =
        let e : n ≡ k = grind (arith, nat_tests) in
        subst (λ j. get_or (set into n (r.join (get_or into n (pos 0)) a)) j (pos 0) ≡ get_or from j (pos 0)) e (get_or-set_same into n _ (pos 0) place ∙ copied)
    before k lt copied place false apart =
        let e : k ≢ n = grind (arith, nat_tests) in
        let lt' : k < n = grind (arith, nat_tests) in
        get_or-set_other into n k _ (pos 0) e ∙ h.before k lt'

pub all_copied : (from into : List ℤ) (n : ℕ) → AreCopied from into n → length into ≡ length from → length from ≤ n → into ≡ from
all_copied from into n h long all = ext_get_or (pos 0) into from long (λ k lt. h.before k (omega (arith, long)))
