-- The maximal runs of numbers that follow each other.
use Rattle.std.specs.Prelude.{◌≡◌, ◌<◌, ◌≤◌, ℕ, ◌+◌, ◌-◌, ◌==◌, List, [], ◌∷◌, if◌then◌else◌}
use Rattle.std.specs.List.{flat_map, range_with_len}

-- a number put before runs: where the first run begins directly behind it, that run begins with it
abbrev pub joined : ℕ → List (ℕ × ℕ) → List (ℕ × ℕ)
joined n [] = (n, n) ∷ []
joined n (run ∷ runs) = if run.0 == n + 1 then (n, run.1) ∷ runs else (n, n) ∷ run ∷ runs

-- the first and the last number of each run, of numbers that rise
abbrev pub runs_of : List ℕ → List (ℕ × ℕ)
runs_of [] = []
runs_of (n ∷ ns) = joined n (runs_of ns)

-- the numbers of a run
abbrev pub numbers_in : ℕ × ℕ → List ℕ
numbers_in run = range_with_len run.0 (run.1 + 1 - run.0)

-- there is a number between the run and the next one
abbrev pub IsApart : ℕ × ℕ → List (ℕ × ℕ) → Type 0
IsApart run [] = Unit {0}
IsApart run (next ∷ runs) = run.1 + 1 < next.0

-- each run has a number, and no two of them can be joined
abbrev pub AreMaximal : List (ℕ × ℕ) → Type 0
AreMaximal [] = Unit {0}
AreMaximal (run ∷ runs) = (run.0 ≤ run.1) × IsApart run runs × AreMaximal runs

-- the maximal runs that together have just these numbers, in order
pub record AreRunsOf (numbers : List ℕ) (runs : List (ℕ × ℕ)) : Type 0 where
  pub all : flat_map numbers_in runs ≡ numbers
  pub maximal : AreMaximal runs
