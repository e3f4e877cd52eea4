-- What an audit comes to.
use Rattle.std.specs.Prelude.{◌≡◌, List, Option, None, Some}
use Rattle.hash_rows.specs.declared.options.Mode.{Mode}
use Rattle.hash_rows.specs.declared.options.Mode.TheVariants.{Rounds, Threads}
use Rattle.hash_rows.specs.declared.options.Options.{Options}
use Rattle.hash_rows.specs.declared.shape.Packet.{Packet}
use Rattle.push_history.specs.Journal.{Journal}
use Rattle.audit_law.specs.declared.failure.Failure.{Failure}
use Rattle.audit_law.specs.Judged.{tests_of}
use Rattle.audit_law.specs.Tests.{first_failing}
use Rattle.rounds_audit.specs.declared.verdict.Verdict.{Verdict}
use Rattle.rounds_audit.specs.declared.verdict.Verdict.TheVariants.{Lawful, Unlawful}
use Rattle.rounds_audit.specs.Verdicts.{IsRoundsVerdict}
use Rattle.rounds_audit.specs.Words.{word_of}

-- lawful where no test fails, else the line and the words of the first that does
abbrev pub verdict_of : Option Failure → Verdict
verdict_of None = Lawful
verdict_of (Some failure) = Unlawful failure.line (word_of failure.kept) (word_of failure.lawful)

-- of a run in rounds, the first difference from the journal of the round schedule; of one in threads, the first test that fails
abbrev pub IsVerdictIn : Mode → List Packet → Options → Journal → Verdict → Type 0
IsVerdictIn Rounds packets o kept verdict = IsRoundsVerdict packets o kept verdict
IsVerdictIn Threads packets o kept verdict = verdict ≡ verdict_of (first_failing (tests_of packets o kept))

-- by the mode of the options
abbrev pub IsVerdict : List Packet → Options → Journal → Verdict → Type 0
IsVerdict packets o kept verdict = IsVerdictIn o.mode packets o kept verdict
