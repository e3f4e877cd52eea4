-- Where the next answer's front begins.
use Rattle.std.proofs.Common.{◌≡◌, ◌-◌, ◌+◌, ◌==◌, ℕ, zero, suc, List, length, Bool, true, false, if◌then◌else◌, refl, sym, ap, ◌∙◌, subst, arith, inl, inr}
use Rattle.std.specs.Prelude.{IfNone, None, Option, Some, is_some, replicate}
use Rattle.std.proofs.lemmas.List.{length-replicate}
use Rattle.push_history.specs.Journal.{Journal}
use Rattle.audit_law.specs.LineNumbers.{answer_line}
use Rattle.audit_law.specs.AnswerTests.{answer_at}
use Rattle.answer_audit.specs.Answered.{BeginsAt}

-- behind no answer the front is that of no message, and behind another one it is that of the answer
abbrev pub StandsAt : Journal → ℕ → List ℕ → Type 0
StandsAt j zero front = front ≡ replicate (length front) 0
StandsAt j (suc i) front = front ≡ (answer_at j i).front

pub begins_at : (j : Journal) (i n workers : ℕ) (front begun : List ℕ) → (answer_at j i).number ≡ n → begun ≡ (if n == 0 then replicate workers 0 else front)
    → StandsAt j i front → BeginsAt j i begun
begins_at j i n workers front begun number is stands = by (n == 0) refl
  where
    zeros : begun ≡ replicate workers 0 → begun ≡ replicate (length begun) 0
    zeros e = e ∙ ap (λ (k : ℕ). replicate k 0) (sym (ap length e ∙ length-replicate {A = ℕ} workers 0))

    later : (i : ℕ) → ((answer_at j i).number == 0) ≡ false → begun ≡ front → StandsAt j i front → BeginsAt j i begun
    later zero other e s = inl (e ∙ s ∙ ap (λ (k : ℕ). replicate k 0) (sym (ap length e)))
    later (suc i) other e s = inr (other, e ∙ s ∙ ap (λ (k : ℕ). (answer_at j k).front) (let before : i ≡ suc i - 1 = omega arith in before))

    by : (b : Bool) → (n == 0) ≡ b → BeginsAt j i begun
    by true first = inl (zeros (is ∙ ap (λ (b : Bool). if b then replicate workers 0 else front) first))
    by false other = later i (ap (λ (k : ℕ). k == 0) number ∙ other) (is ∙ ap (λ (b : Bool). if b then replicate workers 0 else front) other) stands

pub begun_long : (n workers : ℕ) (front begun : List ℕ) → begun ≡ (if n == 0 then replicate workers 0 else front) → length front ≡ workers → length begun ≡ workers
begun_long n workers front begun is len = ap length is ∙ by (n == 0)
  where
    by : (b : Bool) → length (if b then replicate workers 0 else front) ≡ workers
    by true = length-replicate {A = ℕ} workers 0
    by false = len

pub stands_more : (j : Journal) (i : ℕ) (front : List ℕ) → front ≡ (answer_at j i).front → StandsAt j (i + 1) front
stands_more j i front is = let next : suc i ≡ i + 1 = omega arith in subst (λ (k : ℕ). StandsAt j k front) next is

pub line_at : (j : Journal) (line i : ℕ) → line ≡ answer_line j 0 → line + i ≡ answer_line j i
unfolding answer_line
line_at j line i is = omega (arith, is)

pub of_none : {A P : Type 0} (o : Option A) → IfNone o P → is_some o ≡ false → P
of_none None p none = p
of_none (Some x) p none = absurd (cc)
