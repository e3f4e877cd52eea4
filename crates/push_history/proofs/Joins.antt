-- Joins of the values of a cell.
use Rattle.std.proofs.Common.{◌≡◌, ℕ, ◌==◌, ℤ, pos, List, [], ◌∷◌, ◌++◌, Bool, true, false, refl, ap, ◌∙◌}
use Rattle.std.specs.Prelude.{filter, map, fold, All, if◌then◌else◌}
use Rattle.std.proofs.lemmas.List.Sums.{fold_push}
use Rattle.std.proofs.lemmas.List.Elements.{All-head, All-tail, All-map, All-filter}
use Rattle.hash_rows.specs.declared.shape.Update.{Update}
use Rattle.hash_rows.specs.declared.shape.Push.{Push}
use Rattle.hash_rows.specs.Rules.{Rules, AreLaws, AreValues}
use Rattle.hash_rows.specs.Sequential.{joined_of}
use Rattle.push_history.specs.Whole.{whole_of}
use Rattle.push_history.specs.Told.{told_of}
use Rattle.push_history.proofs.Lists.{kept_push}

-- the join of the values of those that pass, after one more
joined_push : {X : Type 0} (r : Rules) (p : X → Bool) (v : X → ℤ) (xs : List X) (x : X)
    → joined_of r (map v (filter p (xs ++ x ∷ []))) ≡ (if p x then r.join (joined_of r (map v (filter p xs))) (v x) else joined_of r (map v (filter p xs)))
joined_push r p v xs x =
    ap (joined_of r) (kept_push p v xs x)
    ∙ elim (p x) as (λ b. joined_of r (if b then map v (filter p xs) ++ v x ∷ [] else map v (filter p xs)) ≡ (if b then r.join (joined_of r (map v (filter p xs))) (v x) else joined_of r (map v (filter p xs))))
    [ true ↦ fold_push r.join (pos 0) (map v (filter p xs)) (v x) | false ↦ refl ]

-- one more update
pub whole_push : (r : Rules) (cell : ℕ) (updates : List Update) (u : Update)
    → whole_of r cell (updates ++ u ∷ []) ≡ (if u.cell == cell then r.join (whole_of r cell updates) u.value else whole_of r cell updates)
unfolding whole_of
whole_push r cell updates u = joined_push r (λ x. x.cell == cell) (λ x. x.value) updates u

-- one more message
pub told_push : (r : Rules) (cell : ℕ) (messages : List Push) (m : Push)
    → told_of r cell (messages ++ m ∷ []) ≡ (if m.cell == cell then r.join (told_of r cell messages) m.amount else told_of r cell messages)
unfolding told_of
told_push r cell messages m = joined_push r (λ x. x.cell == cell) (λ x. x.amount) messages m

fold_value : (r : Rules) → AreLaws r → (xs : List ℤ) (a : ℤ) → r.is_value a ≡ true → AreValues r xs → r.is_value (fold r.join a xs) ≡ true
fold_value r laws [] a is all = is
fold_value r laws (x ∷ xs) a is all =
    fold_value r laws xs (r.join a x) (laws.join_value a x is (All-head (λ y. r.is_value y ≡ true) x xs all)) (All-tail (λ y. r.is_value y ≡ true) x xs all)

-- a join of values is one
pub joined_value : (r : Rules) → AreLaws r → (xs : List ℤ) → AreValues r xs → r.is_value (joined_of r xs) ≡ true
joined_value r laws xs all = fold_value r laws xs (pos 0) laws.zero_value all

pub whole_value : (r : Rules) → AreLaws r → (cell : ℕ) (updates : List Update) → All (λ u. r.is_value u.value ≡ true) updates → r.is_value (whole_of r cell updates) ≡ true
unfolding whole_of
whole_value r laws cell updates all =
    joined_value r laws _ (All-map (λ y. r.is_value y ≡ true) (λ u. u.value) (filter (λ u. u.cell == cell) updates) (All-filter (λ u. u.cell == cell) (λ u. r.is_value u.value ≡ true) updates all))

pub told_value : (r : Rules) → AreLaws r → (cell : ℕ) (messages : List Push) → All (λ m. r.is_value m.amount ≡ true) messages → r.is_value (told_of r cell messages) ≡ true
unfolding told_of
told_value r laws cell messages all =
    joined_value r laws _ (All-map (λ y. r.is_value y ≡ true) (λ m. m.amount) (filter (λ m. m.cell == cell) messages) (All-filter (λ m. m.cell == cell) (λ m. r.is_value m.amount ≡ true) messages all))
