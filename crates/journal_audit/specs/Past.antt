-- Refused updates behind those of a worker.
use Rattle.std.specs.Prelude.{◌≡◌, ◌<◌, ◌≤◌, ℕ, List, true, false}
use Rattle.push_history.specs.Pushes.{is_refused}

-- no refused update has this number or a higher one
abbrev pub NonePast : List ℕ → ℕ → Type 0
NonePast refused n = (k : ℕ) → n ≤ k → is_refused k refused ≡ false

-- k is the first refused update with this number or a higher one
pub record IsFirstPast (refused : List ℕ) (n k : ℕ) : Type 0 where
  pub past : n ≤ k
  pub its : is_refused k refused ≡ true
  pub none : (i : ℕ) → n ≤ i → i < k → is_refused i refused ≡ false
