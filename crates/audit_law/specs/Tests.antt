-- Tests that a line is put to.
use Rattle.std.specs.Prelude.{ℕ, List, [], ◌∷◌, Bool, Option, None, Some, if◌then◌else◌}
use Rattle.audit_law.specs.declared.failure.Failure.{Failure}
use Rattle.audit_law.specs.declared.failure.Value.{Value}

-- what the line fails by where the test doesn't hold, and whether it holds
pub record Test : Type 0 where
  pub failure : Failure
  pub holds : Bool

-- the line, what it keeps, what would be lawful, and whether the test holds
abbrev pub test : ℕ → Value → Value → Bool → Test
test line kept lawful holds = record { failure = record { line = line; kept = kept; lawful = lawful }; holds = holds }

-- the first that doesn't hold
abbrev pub first_failing : List Test → Option Failure
first_failing [] = None
first_failing (t ∷ ts) = if t.holds then first_failing ts else Some t.failure
