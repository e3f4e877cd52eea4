-- Runs of set bits.
use Rattle.std.proofs.Common.{eq-or-lt_of_le, inl, inr, ◌≡◌, ℕ, zero, suc, ◌+◌, ◌-◌, ◌<◌, ◌≤◌, ◌==◌, Bool, true, false, List, [], ◌∷◌, length, drop, get_or, count_by, cond, true≢false, refl, sym, ap, subst, ◌∙◌, arith, add-one, if◌then◌else◌}
use Rattle.std.proofs.lemmas.List.Sums.{sum_by-cons}
use Rattle.std.proofs.Math.Seq.{drop-cons}
use Rattle.std.proofs.Math.ListN.{drop_of_length-le}
use Rattle.hash_rows.specs.Marks.{marked_from}
use Rattle.octo_text.specs.Runs.{joined, runs_of}

-- the set bits from a place on
abbrev pub marked_behind : ℕ → List Bool → List ℕ
marked_behind place bits = marked_from place (drop place bits)

-- what the bit at a place adds
marked_step : (bits : List Bool) (place : ℕ) → place < length bits
    → marked_behind place bits ≡ (if get_or bits place false then place ∷ marked_behind (place + 1) bits else marked_behind (place + 1) bits)
marked_step bits place within =
    ap (marked_from place) (drop-cons bits place false within)
    ∙ ap (λ (n : ℕ). if get_or bits place false then place ∷ marked_from (place + 1) (drop n bits) else marked_from (place + 1) (drop n bits)) (sym (add-one place))

at_clear : (bits : List Bool) (place : ℕ) → place < length bits → get_or bits place false ≡ false → marked_behind place bits ≡ marked_behind (place + 1) bits
at_clear bits place within clear =
    marked_step bits place within
    ∙ ap (λ (b : Bool). if b then place ∷ marked_behind (place + 1) bits else marked_behind (place + 1) bits) clear

at_set : (bits : List Bool) (place : ℕ) → place < length bits → get_or bits place false ≡ true → marked_behind place bits ≡ place ∷ marked_behind (place + 1) bits
at_set bits place within set =
    marked_step bits place within
    ∙ ap (λ (b : Bool). if b then place ∷ marked_behind (place + 1) bits else marked_behind (place + 1) bits) set

-- clear bits add nothing
pub marked_clear : (n : ℕ) (bits : List Bool) (start end : ℕ) → start + n ≡ end → end ≤ length bits
    → ((k : ℕ) → start ≤ k → k < end → get_or bits k false ≡ false) → marked_behind start bits ≡ marked_behind end bits
marked_clear zero bits start end is within clear = ap (λ (n : ℕ). marked_behind n bits) (omega arith)
marked_clear (suc n) bits start end is within clear =
    at_clear bits start (omega arith) (clear start (omega arith) (omega arith))
    ∙ marked_clear n bits (start + 1) end (omega arith) within (λ k low high. clear k (omega arith) high)

-- they begin at this place or further on
abbrev pub StartsFrom : ℕ → List ℕ → Type 0
StartsFrom least [] = Unit {0}
StartsFrom least (n ∷ ns) = least ≤ n

pub marked_starts : (bits : List Bool) (least place : ℕ) → least ≤ place → StartsFrom least (marked_from place bits)
marked_starts [] least place low = tt
marked_starts (true ∷ bits) least place low = low
marked_starts (false ∷ bits) least place low = marked_starts bits least (place + 1) (omega arith)

-- a number stands alone before runs that begin further on
before_joined : (n m : ℕ) (runs : List (ℕ × ℕ)) → n + 2 ≤ m → joined n (joined m runs) ≡ (n, n) ∷ joined m runs
before_joined n m [] far =
    let apart : (m == n + 1) ≡ false = grind arith in
    ap (λ (b : Bool). if b then (n, m) ∷ [] else (n, n) ∷ (m, m) ∷ []) apart
before_joined n m (run ∷ runs) far =
    let apart : (m == n + 1) ≡ false = grind arith in
    elim (run.0 == m + 1) as (λ (b : Bool). joined n (if b then (m, run.1) ∷ runs else (m, m) ∷ run ∷ runs) ≡ (n, n) ∷ (if b then (m, run.1) ∷ runs else (m, m) ∷ run ∷ runs)) [
      | true ↦ ap (λ (b : Bool). if b then (n, run.1) ∷ runs else (n, n) ∷ (m, run.1) ∷ runs) apart
      | false ↦ ap (λ (b : Bool). if b then (n, m) ∷ run ∷ runs else (n, n) ∷ (m, m) ∷ run ∷ runs) apart
    ]

before_runs : (n : ℕ) (ns : List ℕ) → StartsFrom (n + 2) ns → joined n (runs_of ns) ≡ (n, n) ∷ runs_of ns
before_runs n [] far = refl
before_runs n (m ∷ ms) far = before_joined n m (runs_of ms) far

-- the last set bit before a clear one, or before the end
last_set : (bits : List Bool) (start end : ℕ) → start + 1 ≡ end → end ≤ length bits
    → (end < length bits → get_or bits end false ≡ false) → joined start (runs_of (marked_behind end bits)) ≡ (start, start) ∷ runs_of (marked_behind end bits)
last_set bits start end is within clear =
    before_runs start (marked_behind end bits) (elim (eq-or-lt_of_le within) [
      | inl at_end ↦ subst (λ (ns : List ℕ). StartsFrom (start + 2) ns) (sym (nothing_behind bits end at_end)) tt
      | inr more ↦ subst (λ (ns : List ℕ). StartsFrom (start + 2) ns) (sym (at_clear bits end more (clear more))) (marked_starts (drop (end + 1) bits) (start + 2) (end + 1) (omega arith))
    ])
  where
    nothing_behind : (bits : List Bool) (end : ℕ) → end ≡ length bits → marked_behind end bits ≡ []
    nothing_behind bits end at_end = ap (marked_from end) (drop_of_length-le bits (omega arith))

-- a number directly before the first run begins it
joined_next : (n m : ℕ) (runs : List (ℕ × ℕ)) → joined n ((n + 1, m) ∷ runs) ≡ (n, m) ∷ runs
joined_next n m runs =
    let next : (n + 1 == n + 1) ≡ true = grind arith in
    ap (λ (b : Bool). if b then (n, m) ∷ runs else (n, n) ∷ (n + 1, m) ∷ runs) next

-- a run of set bits up to a clear one, or to the end
pub marked_run : (n : ℕ) (bits : List Bool) (start last end : ℕ) → start + n ≡ last → last + 1 ≡ end → end ≤ length bits
    → ((k : ℕ) → start ≤ k → k < end → get_or bits k false ≡ true) → (end < length bits → get_or bits end false ≡ false)
    → runs_of (marked_behind start bits) ≡ (start, last) ∷ runs_of (marked_behind end bits)
marked_run zero bits start last end is ends within set clear =
    let same : start ≡ last = omega arith in
    ap runs_of (at_set bits start (omega arith) (set start (omega arith) (omega arith)))
    ∙ ap (λ (k : ℕ). joined start (runs_of (marked_behind k bits))) (omega arith)
    ∙ last_set bits start end (omega arith) within clear
    ∙ ap (λ (k : ℕ). (start, k) ∷ runs_of (marked_behind end bits)) same
marked_run (suc n) bits start last end is ends within set clear =
    ap runs_of (at_set bits start (omega arith) (set start (omega arith) (omega arith)))
    ∙ ap (joined start) (marked_run n bits (start + 1) last end (omega arith) ends within (λ k low high. set k (omega arith) high) clear)
    ∙ joined_next start last (runs_of (marked_behind end bits))

-- how many bits are set
pub length-marked : (bits : List Bool) (place : ℕ) → length (marked_from place bits) ≡ count_by (λ mark. mark) bits
length-marked [] place = refl
length-marked (true ∷ bits) place = omega (arith, length-marked bits (place + 1), sum_by-cons (λ (mark : Bool). cond mark 1 0) true bits)
length-marked (false ∷ bits) place = length-marked bits (place + 1)

-- a clear bit behind a set one stands further on
pub past_set : (bits : List Bool) (start end : ℕ) → start < length bits → get_or bits start false ≡ true → start ≤ end
    → (end < length bits → get_or bits end false ≡ false) → start < end
past_set bits start end within set low clear =
    elim (eq-or-lt_of_le low) [
      | inl same ↦
          let within_end : end < length bits = omega arith in
          absurd (true≢false (sym set ∙ ap (λ (n : ℕ). get_or bits n false) same ∙ clear within_end))
      | inr lt ↦ lt
    ]

-- the run from a set bit on, and the runs from the next set bit on
pub next_run : (bits : List Bool) (start last end next : ℕ) → start ≤ last → last + 1 ≡ end → end ≤ length bits
    → ((k : ℕ) → start ≤ k → k < end → get_or bits k false ≡ true) → (end < length bits → get_or bits end false ≡ false)
    → end ≤ next → next ≤ length bits → ((k : ℕ) → end ≤ k → k < next → get_or bits k false ≡ false)
    → runs_of (marked_behind start bits) ≡ (start, last) ∷ runs_of (marked_behind next bits)
next_run bits start last end next low ends within set clear later all between =
    marked_run (last - start) bits start last end (omega arith) ends within set clear
    ∙ ap (λ (ns : List ℕ). (start, last) ∷ runs_of ns) (marked_clear (next - end) bits end next (omega arith) all between)
