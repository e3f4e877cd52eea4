-- The first of two failures.
use Rattle.std.specs.Prelude.{Option, None, Some}
use Rattle.audit_law.specs.declared.failure.Failure.{Failure}

-- the first one, if it is there, else the other
abbrev pub first_of : Option Failure → Option Failure → Option Failure
first_of None other = other
first_of (Some failure) other = Some failure
