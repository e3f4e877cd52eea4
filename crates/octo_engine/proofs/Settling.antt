-- The residue of a worker of the run, and rows that are filled from the last one on.
use Rattle.std.proofs.Common.{◌≡◌, ◌<◌, ◌≤◌, ℕ, ℤ, ◌+◌, List, [], ◌∷◌, ◌++◌, length, get_or, take, drop, length-append, append_assoc, set, sym, ap, ◌∙◌, subst, arith, inl, inr}
use Rattle.std.proofs.lemmas.Bool.{cases_lt}
use Rattle.std.proofs.lemmas.List.{get_or-set_same, get_or-set_other, take-append-drop}
use Rattle.std.proofs.Math.Seq.{take-append_seam, get_or-append_seam}
use Rattle.hash_rows.specs.declared.shape.Update.{Update}
use Rattle.hash_rows.specs.Rules.{Rules}
use Rattle.push_history.specs.LagRun.{Terms, Worker, updates_by}
use Rattle.push_history.specs.Residue.{residue}
use Rattle.push_rule.specs.Counters.{CounterView}
use Rattle.push_rule.specs.Keeps.{Keeps}
use Rattle.push_rule.proofs.CounterSteps.{residue_is}

-- where the residue of its sketch is joined, its residue in the run is
pub joined_by : {H : Type 0} (stands : H → ℤ → ℤ → Type 0) (t : Terms) (w : ℕ) (d : CounterView H) (x : Worker) → Keeps stands t w d x → (r : Rules) → t.rules ≡ r → (cell : ℕ) (old new : ℤ)
    → new ≡ r.join old (residue r (take x.counted (updates_by t w)) x.sent (length (take x.counted (updates_by t w))) cell)
    → new ≡ t.rules.join old (residue t.rules (updates_by t w) x.sent x.counted cell)
joined_by stands t w d x keeps r same cell old new is =
    let U : List Update = take x.counted (updates_by t w) in
    is ∙ ap (λ (q : Rules). q.join old (residue r U x.sent (length U) cell)) (sym same) ∙ ap (t.rules.join old) (residue_is stands t w d x keeps r same cell)

-- the last item is taken out of the front of a list
pub popped : {A : Type 0} (all old new : List A) (x : A) → old ≡ take (length old) all → old ≡ new ++ x ∷ [] → (new ≡ take (length new) all) × (length new < length all) × ((d : A) → get_or all (length new) d ≡ x)
popped {A} all old new x front is =
    let rest = drop (length old) all in
    let whole : all ≡ new ++ (x ∷ rest) =
    sym (take-append-drop (length old) all) ∙ ap (λ l. l ++ rest) (sym front ∙ is) ∙ append_assoc new (x ∷ []) rest in
    let len = ap length whole ∙ length-append new (x ∷ rest) in (
      sym (ap (take (length new)) whole ∙ take-append_seam new (x ∷ rest)),
      omega (arith, len),
      (λ d. ap (λ (l : List A). get_or l (length new) d) whole ∙ get_or-append_seam new x rest d),
    )

-- one row more, from the end
pub rows_more : {A B : Type 0} (P : A → B → Type 0) (xs : List A) (rows new : List B) (n : ℕ) (e : B) (x : A) (y : B) → n < length rows → new ≡ set rows n y → ((d : A) → get_or xs n d ≡ x) → P x y
    → ((w : ℕ) (p : A) → n + 1 ≤ w → w < length xs → P (get_or xs w p) (get_or rows w e)) → (w : ℕ) (p : A) → n ≤ w → w < length xs → P (get_or xs w p) (get_or new w e)
rows_more {A} {B} P xs rows new n e x y lt is at here behind w p from to = elim (cases_lt n w) [
  | inl later ↦
      let kept : get_or new w e ≡ get_or rows w e = ap (λ (l : List B). get_or l w e) is ∙ get_or-set_other rows n w y e (λ same. omega (arith, same, later)) in
      subst (λ (z : B). P (get_or xs w p) z) (sym kept) (behind w p (omega (arith, later)) to)
  | inr now ↦
      let same : n ≡ w = omega (arith, now, from) in
      let put : get_or new n e ≡ y = ap (λ (l : List B). get_or l n e) is ∙ get_or-set_same rows n y e lt in
      subst (λ k. P (get_or xs k p) (get_or new k e)) same (subst (λ (z : A). P z (get_or new n e)) (sym (at p)) (subst (λ (z : B). P x z) (sym put) here))
]
