-- Which test of a list fails first.
use Rattle.std.proofs.Common.{◌≡◌, ◌<◌, ◌≤◌, ℕ, zero, suc, ◌+◌, List, [], ◌∷◌, ◌++◌, map, Bool, true, false, if◌then◌else◌, refl, sym, ap, ◌∙◌, subst, arith, inl, inr}
use Rattle.std.specs.Prelude.{Option, Some, None, is_some}
use Rattle.std.specs.List.{flat_map, range_with_len}
use Rattle.std.proofs.Math.Nat.{eq-or-lt_of_le}
use Rattle.audit_law.specs.declared.failure.Failure.{Failure}
use Rattle.audit_law.specs.Firsts.{first_of}
use Rattle.audit_law.specs.Tests.{Test, first_failing}
use Rattle.audit_law.proofs.Holding.{Hold, hold_range, holds_range}

pub failing_front : (ts us : List Test) (f : Failure) → first_failing ts ≡ Some f → first_failing (ts ++ us) ≡ Some f
failing_front [] us f is = absurd (cc)
failing_front (t ∷ ts) us f is = by t.holds is (failing_front ts us f)
  where
    by : (b : Bool) → (if b then first_failing ts else Some t.failure) ≡ Some f → (first_failing ts ≡ Some f → first_failing (ts ++ us) ≡ Some f)
        → (if b then first_failing (ts ++ us) else Some t.failure) ≡ Some f
    by true is rest = rest is
    by false is rest = is

pub failing_back : (ts us : List Test) → Hold ts → first_failing (ts ++ us) ≡ first_failing us
failing_back [] us h = refl
failing_back (t ∷ ts) us h = by t.holds h.none (λ rest. failing_back ts us (record { none = rest }))
  where
    by : (b : Bool) → (if b then first_failing ts else Some t.failure) ≡ None → (first_failing ts ≡ None → first_failing (ts ++ us) ≡ first_failing us)
        → (if b then first_failing (ts ++ us) else Some t.failure) ≡ first_failing us
    by true h rest = rest h
    by false h rest = absurd (cc)

pub failing_head : (t : Test) (ts : List Test) → t.holds ≡ false → first_failing (t ∷ ts) ≡ Some t.failure
failing_head t ts is = ap (λ (b : Bool). if b then first_failing ts else Some t.failure) is

pub failing_tail : (t : Test) (ts : List Test) → t.holds ≡ true → first_failing (t ∷ ts) ≡ first_failing ts
failing_tail t ts is = ap (λ (b : Bool). if b then first_failing ts else Some t.failure) is

-- none of the first n tests fails
abbrev pub AllPass : (ℕ → Test) → ℕ → Type 0
AllPass f n = (k : ℕ) → k < n → (f k).holds ≡ true

pub none_pass : (f : ℕ → Test) → AllPass f 0
none_pass f k lt = absurd (omega (arith, lt))

pub pass_more : (f : ℕ → Test) (n : ℕ) → AllPass f n → (f n).holds ≡ true → AllPass f (n + 1)
pass_more f n all is k lt = elim (eq-or-lt_of_le (let le : k ≤ n = omega (arith, lt) in le)) [
  | inl same ↦ subst (λ (i : ℕ). (f i).holds ≡ true) (sym same) is
  | inr below ↦ all k below
]

first_of_range : (f : ℕ → Test) (a n k : ℕ) → a ≤ k → k < a + n → ((i : ℕ) → a ≤ i → i < k → (f i).holds ≡ true) → (f k).holds ≡ false
    → first_failing (map f (range_with_len a n)) ≡ Some (f k).failure
first_of_range f a zero k low high before fails = absurd (omega (arith, low, high))
first_of_range f a (suc n) k low high before fails = elim (eq-or-lt_of_le low) [
  | inl same ↦
      failing_head (f a) (map f (range_with_len (a + 1) n)) (ap (λ (i : ℕ). (f i).holds) same ∙ fails)
      ∙ ap (λ (i : ℕ). Some (f i).failure) same
  | inr lt ↦
      failing_tail (f a) (map f (range_with_len (a + 1) n)) (before a (omega arith) lt)
      ∙ first_of_range f (a + 1) n k (omega (arith, lt)) (omega (arith, high)) (λ i from to. before i (omega (arith, from)) to) fails
]

-- the first of the tests of a range that fails
pub fails_at : (f : ℕ → Test) (n k : ℕ) → k < n → AllPass f k → (f k).holds ≡ false → first_failing (map f (range_with_len 0 n)) ≡ Some (f k).failure
fails_at f n k lt before fails = first_of_range f 0 n k (omega arith) (omega (arith, lt)) (λ i from to. before i to) fails

pub all_pass : (f : ℕ → Test) (n : ℕ) → AllPass f n → first_failing (map f (range_with_len 0 n)) ≡ None
all_pass f n all = (holds_range f 0 n (λ k low high. all k (omega (arith, high)))).none

-- no test of the first n numbers fails
abbrev pub NoneFail : (ℕ → List Test) → ℕ → Type 0
NoneFail f n = (k : ℕ) → k < n → first_failing (f k) ≡ None

flat_fails : (f : ℕ → List Test) (a n k : ℕ) (failure : Failure) → a ≤ k → k < a + n → ((i : ℕ) → a ≤ i → i < k → first_failing (f i) ≡ None)
    → first_failing (f k) ≡ Some failure → first_failing (flat_map f (range_with_len a n)) ≡ Some failure
flat_fails f a zero k failure low high before fails = absurd (omega (arith, low, high))
flat_fails f a (suc n) k failure low high before fails = elim (eq-or-lt_of_le low) [
  | inl same ↦ failing_front (f a) (flat_map f (range_with_len (a + 1) n)) failure (ap (λ (i : ℕ). first_failing (f i)) same ∙ fails)
  | inr lt ↦
      failing_back (f a) (flat_map f (range_with_len (a + 1) n)) (record { none = before a (omega arith) lt })
      ∙ flat_fails f (a + 1) n k failure (omega (arith, lt)) (omega (arith, high)) (λ i from to. before i (omega (arith, from)) to) fails
]

-- the first number of which a test fails
pub failing_early : (f : ℕ → List Test) (n k : ℕ) (failure : Option Failure) → k < n → NoneFail f k → failure ≡ first_failing (f k) → is_some failure ≡ true
    → failure ≡ first_failing (flat_map f (range_with_len 0 n))
failing_early f n k None lt before is some = absurd (cc)
failing_early f n k (Some failure) lt before is some = sym (flat_fails f 0 n k failure (omega arith) (omega (arith, lt)) (λ i from to. before i to) (sym is))

pub none_failing_of : (f : ℕ → List Test) (n : ℕ) → NoneFail f n → first_failing (flat_map f (range_with_len 0 n)) ≡ None
none_failing_of f n all = (hold_range f 0 n (λ k low high. record { none = all k (omega (arith, high)) })).none

pub absent : (failure : Option Failure) → is_some failure ≡ false → failure ≡ None
absent None none = refl
absent (Some x) none = absurd (cc)

-- one number more
pub hold_more : (f : ℕ → List Test) (n : ℕ) (failure : Option Failure) → NoneFail f n → failure ≡ first_failing (f n) → is_some failure ≡ false → NoneFail f (n + 1)
hold_more f n failure all is none k lt = elim (eq-or-lt_of_le (let le : k ≤ n = omega (arith, lt) in le)) [
  | inl same ↦ subst (λ (i : ℕ). first_failing (f i) ≡ None) (sym same) (sym is ∙ absent failure none)
  | inr below ↦ all k below
]

-- of two lists one after the other
pub first_of_both : (ts us : List Test) → first_failing (ts ++ us) ≡ first_of (first_failing ts) (first_failing us)
first_of_both [] us = refl
first_of_both (t ∷ ts) us = by t.holds (first_of_both ts us)
  where
    by : (b : Bool) → first_failing (ts ++ us) ≡ first_of (first_failing ts) (first_failing us) → (if b then first_failing (ts ++ us) else Some t.failure) ≡ first_of (if b then first_failing ts else Some t.failure) (first_failing us)
    by true rest = rest
    by false rest = refl

-- a first failure is the first of both
pub first_alone : (failure other : Option Failure) → is_some failure ≡ true → failure ≡ first_of failure other
first_alone None other some = absurd (cc)
first_alone (Some f) other some = refl
