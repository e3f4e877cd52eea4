-- The runs of rising numbers are maximal.
use Rattle.std.proofs.Common.{◌≡◌, ℕ, suc, ◌+◌, ◌-◌, ◌<◌, ◌≤◌, ◌==◌, Bool, true, false, List, [], ◌∷◌, ◌++◌, refl, sym, ap, subst, ◌∙◌, arith, if◌then◌else◌}
use Rattle.std.specs.List.{flat_map, range_with_len}
use Rattle.hash_rows.specs.Marks.{marked_from, marked}
use Rattle.octo_text.specs.Runs.{joined, runs_of, numbers_in, AreRunsOf}
use Rattle.octo_text.proofs.RunLemmas.{StartsFrom, marked_starts}

-- each is above the one before
abbrev Rising : List ℕ → Type 0
Rising [] = Unit {0}
Rising (n ∷ ns) = StartsFrom (n + 1) ns × Rising ns

rising_marks : (bits : List Bool) (place : ℕ) → Rising (marked_from place bits)
rising_marks [] place = tt
rising_marks (true ∷ bits) place = (marked_starts bits (place + 1) (place + 1) (omega arith), rising_marks bits (place + 1))
rising_marks (false ∷ bits) place = rising_marks bits (place + 1)

-- so many numbers as are left behind the first
counted : (a k n : ℕ) → n ≡ suc k → range_with_len a n ≡ a ∷ range_with_len (a + 1) k
counted a k n is = ap (range_with_len a) is

one_number : (n : ℕ) → numbers_in (n, n) ≡ n ∷ []
one_number n = counted n 0 (n + 1 - n) (omega arith)

-- the run begins where its numbers do
begins : (run : ℕ × ℕ) (rest ns : List ℕ) (least : ℕ) → run.0 ≤ run.1 → numbers_in run ++ rest ≡ ns → StartsFrom least ns → least ≤ run.0
begins run rest ns least some is starts =
    let first : run.0 ∷ (range_with_len (run.0 + 1) (run.1 - run.0) ++ rest) ≡ ns =
    sym (ap (λ (t : List ℕ). t ++ rest) (counted run.0 (run.1 - run.0) (run.1 + 1 - run.0) (omega arith))) ∙ is in
    subst (λ (ms : List ℕ). StartsFrom least ms) (sym first) starts

-- a number before runs that begin further on
joined_runs : (n : ℕ) (ns : List ℕ) (runs : List (ℕ × ℕ)) → StartsFrom (n + 1) ns → AreRunsOf ns runs → AreRunsOf (n ∷ ns) (joined n runs)
joined_runs n ns [] starts r = record {
  all = ap (λ (t : List ℕ). t ++ []) (one_number n) ∙ ap (λ (t : List ℕ). n ∷ t) r.all;
  maximal = (omega arith, tt, tt);
}
joined_runs n ns (run ∷ runs) starts r =
    let low : n + 1 ≤ run.0 = begins run (flat_map numbers_in runs) ns (n + 1) r.maximal.0 r.all starts in
    by_test (run.0 == n + 1) refl low
  where
    by_test : (b : Bool) → (run.0 == n + 1) ≡ b → n + 1 ≤ run.0 → AreRunsOf (n ∷ ns) (if b then (n, run.1) ∷ runs else (n, n) ∷ run ∷ runs)
    by_test true test low =
        let next : run.0 ≡ n + 1 = grind arith in
        let longer : numbers_in (n, run.1) ≡ n ∷ numbers_in run =
        counted n (run.1 + 1 - run.0) (run.1 + 1 - n) (omega (arith, r.maximal.0)) ∙ ap (λ (a : ℕ). n ∷ range_with_len a (run.1 + 1 - run.0)) (sym next) in
        record {
          all = ap (λ (t : List ℕ). t ++ flat_map numbers_in runs) longer ∙ ap (λ (t : List ℕ). n ∷ t) r.all;
          maximal = (omega (arith, r.maximal.0), r.maximal.1, r.maximal.2);
        }
    by_test false test low =
        let further : n + 1 < run.0 = grind arith in
        record {
          all = ap (λ (t : List ℕ). t ++ flat_map numbers_in (run ∷ runs)) (one_number n) ∙ ap (λ (t : List ℕ). n ∷ t) r.all;
          maximal = (omega arith, further, r.maximal);
        }

runs_are : (ns : List ℕ) → Rising ns → AreRunsOf ns (runs_of ns)
runs_are [] rising = record { all = refl; maximal = tt }
runs_are (n ∷ ns) rising = joined_runs n ns (runs_of ns) rising.0 (runs_are ns rising.1)

pub maximal_runs : (bits : List Bool) → AreRunsOf (marked bits) (runs_of (marked bits))
maximal_runs bits = runs_are (marked bits) (rising_marks bits 0)
