-- Lists of tests of which none fails.
use Rattle.std.proofs.Common.{◌≡◌, ◌<◌, ◌≤◌, ℕ, zero, suc, ◌+◌, ◌||◌, List, [], ◌∷◌, ◌++◌, map, Bool, true, false, if◌then◌else◌, refl, ap, ◌∙◌, subst, arith, inl, inr, true≢false}
use Rattle.std.specs.Prelude.{All, Option, None, Some}
use Rattle.std.specs.List.{flat_map, range_with_len}
use Rattle.std.proofs.Math.Nat.{eq-or-lt_of_le}
use Rattle.std.proofs.lemmas.List.Elements.{All-nil, All-cons, All-head, All-tail}
use Rattle.audit_law.specs.declared.failure.Failure.{Failure}
use Rattle.audit_law.specs.Tests.{Test, first_failing}

-- none of the tests fails
pub record Hold (ts : List Test) : Type 0 where
  pub none : first_failing ts ≡ None

passed : (b : Bool) (rest : Option Failure) (f : Failure) → (if b then rest else Some f) ≡ None → b ≡ true
passed true rest f is = refl
passed false rest f is = absurd (cc)

left : (b : Bool) (rest : Option Failure) (f : Failure) → (if b then rest else Some f) ≡ None → rest ≡ None
left true rest f is = is
left false rest f is = absurd (cc)

pub hold_nil : Hold []
hold_nil = record { none = refl }

pub hold_head : (t : Test) (ts : List Test) → Hold (t ∷ ts) → t.holds ≡ true
hold_head t ts h = passed t.holds (first_failing ts) t.failure h.none

pub hold_tail : (t : Test) (ts : List Test) → Hold (t ∷ ts) → Hold ts
hold_tail t ts h = record { none = left t.holds (first_failing ts) t.failure h.none }

pub hold_cons : (t : Test) (ts : List Test) → t.holds ≡ true → Hold ts → Hold (t ∷ ts)
hold_cons t ts is h = record { none = ap (λ (b : Bool). if b then first_failing ts else Some t.failure) is ∙ h.none }

pub hold_front : (ts us : List Test) → Hold (ts ++ us) → Hold ts
hold_front [] us h = hold_nil
hold_front (t ∷ ts) us h = hold_cons t ts (hold_head t (ts ++ us) h) (hold_front ts us (hold_tail t (ts ++ us) h))

pub hold_back : (ts us : List Test) → Hold (ts ++ us) → Hold us
hold_back [] us h = h
hold_back (t ∷ ts) us h = hold_back ts us (hold_tail t (ts ++ us) h)

pub hold_append : (ts us : List Test) → Hold ts → Hold us → Hold (ts ++ us)
hold_append [] us h g = g
hold_append (t ∷ ts) us h g = hold_cons t (ts ++ us) (hold_head t ts h) (hold_append ts us (hold_tail t ts h) g)

-- the tests of each number of a range
pub hold_each : (f : ℕ → List Test) (a n : ℕ) → Hold (flat_map f (range_with_len a n)) → (k : ℕ) → a ≤ k → k < a + n → Hold (f k)
hold_each f a zero h k low high = absurd (omega (arith, low, high))
hold_each f a (suc n) h k low high = elim (eq-or-lt_of_le low) [
  | inl same ↦ subst (λ (i : ℕ). Hold (f i)) same (hold_front (f a) (flat_map f (range_with_len (a + 1) n)) h)
  | inr lt ↦ hold_each f (a + 1) n (hold_back (f a) (flat_map f (range_with_len (a + 1) n)) h) k (omega (arith, lt)) (omega (arith, high))
]

pub hold_range : (f : ℕ → List Test) (a n : ℕ) → ((k : ℕ) → a ≤ k → k < a + n → Hold (f k)) → Hold (flat_map f (range_with_len a n))
hold_range f a zero each = hold_nil
hold_range f a (suc n) each =
    hold_append (f a) (flat_map f (range_with_len (a + 1) n)) (each a (omega arith) (omega arith))
    (hold_range f (a + 1) n (λ k low high. each k (omega (arith, low)) (omega (arith, high))))

-- one test of each
pub holds_each : (f : ℕ → Test) (a n : ℕ) → Hold (map f (range_with_len a n)) → (k : ℕ) → a ≤ k → k < a + n → (f k).holds ≡ true
holds_each f a zero h k low high = absurd (omega (arith, low, high))
holds_each f a (suc n) h k low high = elim (eq-or-lt_of_le low) [
  | inl same ↦ subst (λ (i : ℕ). (f i).holds ≡ true) same (hold_head (f a) (map f (range_with_len (a + 1) n)) h)
  | inr lt ↦ holds_each f (a + 1) n (hold_tail (f a) (map f (range_with_len (a + 1) n)) h) k (omega (arith, lt)) (omega (arith, high))
]

pub holds_range : (f : ℕ → Test) (a n : ℕ) → ((k : ℕ) → a ≤ k → k < a + n → (f k).holds ≡ true) → Hold (map f (range_with_len a n))
holds_range f a zero each = hold_nil
holds_range f a (suc n) each =
    hold_cons (f a) (map f (range_with_len (a + 1) n)) (each a (omega arith) (omega arith))
    (holds_range f (a + 1) n (λ k low high. each k (omega (arith, low)) (omega (arith, high))))

-- the tests of each number of a list
pub hold_all : (f : ℕ → List Test) (xs : List ℕ) → Hold (flat_map f xs) → All (λ x. Hold (f x)) xs
hold_all f [] h = All-nil (λ x. Hold (f x))
hold_all f (x ∷ xs) h = All-cons (λ x. Hold (f x)) x xs (hold_front (f x) (flat_map f xs) h) (hold_all f xs (hold_back (f x) (flat_map f xs) h))

pub hold_list : (f : ℕ → List Test) (xs : List ℕ) → All (λ x. Hold (f x)) xs → Hold (flat_map f xs)
hold_list f [] h = hold_nil
hold_list f (x ∷ xs) h = hold_append (f x) (flat_map f xs) (All-head (λ x. Hold (f x)) x xs h) (hold_list f xs (All-tail (λ x. Hold (f x)) x xs h))

-- a test under a condition
pub unless : (a b : Bool) → (a || b) ≡ true → a ≡ false → b ≡ true
unless true b is fails = absurd (true≢false fails)
unless false b is fails = is
