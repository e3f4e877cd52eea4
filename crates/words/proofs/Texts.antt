-- Lemmas on texts.
use Rattle.std.proofs.Common.{◌≡◌, ◌∙◌, ◌&&◌, ◌||◌, ◌⊎◌, ◌+◌, ℕ, suc, Bool, cond, true, false, not, refl, sym, ap, ap₂, subst, take, drop, arith, List, [], ◌∷◌, ◌++◌, Option, Some, None, inl, inr, true≢false, eqb-true, eq-eqb}
use Rattle.std.specs.Prelude.{◌==◌}
use Rattle.std.specs.List.{position_or_len}
use Rattle.std.specs.Str.{bytes_eq}
use Rattle.clap.specs.Lexer.{has_byte, long_of, name_and_value, short_of}
use Rattle.clap.specs.Kinds.{Kinds, or_else}
use Rattle.words.specs.Forms.{is_form, is_long_rest}
use Rattle.words.specs.Grammar.{Text, is_bare}

pub and_both : (a b : Bool) → (a && b) ≡ true → (a ≡ true) × (b ≡ true)
and_both true b e = (refl, e)
and_both false b e = absurd (true≢false (sym e))

pub not_true : (b : Bool) → not b ≡ true → b ≡ false
not_true true e = absurd (true≢false (sym e))
not_true false e = refl

pub bool_cases : (b : Bool) → (b ≡ true) ⊎ (b ≡ false)
bool_cases true = inl refl
bool_cases false = inr refl

pub same_bytes : (xs ys : Text) → bytes_eq xs ys ≡ true → xs ≡ ys
same_bytes [] [] e = refl
same_bytes [] (y ∷ ys) e = absurd (true≢false (sym e))
same_bytes (x ∷ xs) [] e = absurd (true≢false (sym e))
same_bytes (x ∷ xs) (y ∷ ys) e = let p = and_both _ _ e in ap₂ (λ (a : ℕ) (b : Text). a ∷ b) (eqb-true x y p.0) (same_bytes xs ys p.1)

pub bytes_same : (xs : Text) → bytes_eq xs xs ≡ true
bytes_same [] = refl
bytes_same (x ∷ xs) = let e : (x == x) ≡ true = eq-eqb x x refl in rw e (bytes_same xs)

abbrev is_cons : {X : Type 0} → List X → Bool
is_cons [] = false
is_cons (x ∷ xs) = true

pub cons_not_nil : {X : Type 0} (x : X) (xs : List X) → x ∷ xs ≡ [] → ⊥
cons_not_nil x xs e = true≢false (ap is_cons e)

-- both steps pass
pub both_pass : (a b : Kinds) → or_else a b ≡ [] → (a ≡ []) × (b ≡ [])
both_pass [] b e = (refl, e)
both_pass (k ∷ ks) b e = absurd (cons_not_nil k ks e)

-- ---- the form of a word

abbrev pub IsLong : Text → Type 0
IsLong w = (x : ℕ) × (xs : Text) × (w ≡ 45 ∷ 45 ∷ x ∷ xs)

pub long_rest : (xs : Text) → is_long_rest xs ≡ true → (x : ℕ) × (ys : Text) × (xs ≡ 45 ∷ x ∷ ys)
long_rest [] e = absurd (true≢false (sym e))
long_rest (y ∷ []) e = absurd (true≢false (sym e))
long_rest (y ∷ z ∷ zs) e = (z, zs, ap (λ (a : ℕ). a ∷ z ∷ zs) (eqb-true y 45 e))

pub form_cases : (w : Text) → is_form w ≡ true → (is_bare w ≡ true) ⊎ IsLong w
form_cases [] e = inl refl
form_cases (x ∷ xs) e = elim (bool_cases (x == 45)) [
  | inl hit ↦ let r = long_rest xs (rw hit at e) in inr (r.0, r.1, ap₂ (λ (a : ℕ) (b : Text). a ∷ b) (eqb-true x 45 hit) r.2)
  | inr miss ↦ inl (rw miss refl)
]

pub bare_bytes : (w : Text) → is_bare w ≡ true → bytes_eq w (45 ∷ 45 ∷ []) ≡ false
bare_bytes [] b = refl
bare_bytes (x ∷ xs) b = let m : (x == 45) ≡ false = not_true _ b in rw m refl

pub bare_long : (w : Text) → is_bare w ≡ true → long_of w ≡ None
bare_long [] b = refl
bare_long (x ∷ xs) b = let m : (x == 45) ≡ false = not_true _ b in rw m refl

pub bare_short : (w : Text) → is_bare w ≡ true → short_of w ≡ None
bare_short [] b = refl
bare_short (x ∷ xs) b = let m : (x == 45) ≡ false = not_true _ b in rw m refl

-- ---- names and values

name_step : (x : ℕ) (xs : Text) → (x == 61) ≡ false → name_and_value (x ∷ xs) ≡ (x ∷ (name_and_value xs).0, (name_and_value xs).1)
name_step x xs miss = go (position_or_len (λ y. y == 61) xs) (x == 61) miss
  where
    go : (k : ℕ) (b : Bool) → b ≡ false → ◌≡◌ {A = Text × Option Text}
        (take (cond (not b) (1 + k) 0) (x ∷ xs), cond (b || has_byte 61 xs) (Some (drop (cond (not b) (1 + k) 0 + 1) (x ∷ xs))) None)
        (x ∷ take k xs, cond (has_byte 61 xs) (Some (drop (k + 1) xs)) None)
    go k true e = absurd (true≢false e)
    go k false e =
        let a : 1 + k ≡ suc k = omega arith in
        let b : 1 + k + 1 ≡ suc (k + 1) = omega arith in
        ap₂ (λ (m n : ℕ). (take m (x ∷ xs), cond (has_byte 61 xs) (Some (drop n (x ∷ xs))) None)) a b

pub or_neither : (a b : Bool) → (a || b) ≡ false → (a ≡ false) × (b ≡ false)
or_neither true b e = absurd (true≢false e)
or_neither false b e = (refl, e)

pub name_alone : (n : Text) → has_byte 61 n ≡ false → name_and_value n ≡ (n, None)
name_alone [] e = refl
name_alone (x ∷ xs) e =
    let p = or_neither _ _ e in
    name_step x xs p.0 ∙ ap (λ (q : Text × Option Text). (x ∷ q.0, q.1)) (name_alone xs p.1)

pub name_valued : (n v : Text) → has_byte 61 n ≡ false → name_and_value (n ++ 61 ∷ v) ≡ (n, Some v)
name_valued [] v e = refl
name_valued (x ∷ xs) v e =
    let p = or_neither _ _ e in
    name_step x (xs ++ 61 ∷ v) p.0 ∙ ap (λ (q : Text × Option Text). (x ∷ q.0, q.1)) (name_valued xs v p.1)

-- how a text is cut at its first `=`
abbrev pub IsCut : Text → Option Text → Text → Type 0
IsCut n None t = t ≡ n
IsCut n (Some v) t = t ≡ n ++ 61 ∷ v

cut_more : (x : ℕ) (n : Text) (v : Option Text) (t : Text) → IsCut n v t → IsCut (x ∷ n) v (x ∷ t)
cut_more x n None t e = ap (λ (u : Text). x ∷ u) e
cut_more x n (Some v) t e = ap (λ (u : Text). x ∷ u) e

pub name_parts : (t : Text) → IsCut (name_and_value t).0 (name_and_value t).1 t
name_parts [] = refl
name_parts (x ∷ xs) = elim (bool_cases (x == 61)) [
  | inl hit ↦ subst (λ (y : ℕ). IsCut (name_and_value (y ∷ xs)).0 (name_and_value (y ∷ xs)).1 (y ∷ xs)) (sym (eqb-true x 61 hit)) refl
  | inr miss ↦ subst (λ (q : Text × Option Text). IsCut q.0 q.1 (x ∷ xs)) (sym (name_step x xs miss)) (cut_more x _ _ xs (name_parts xs))
]
