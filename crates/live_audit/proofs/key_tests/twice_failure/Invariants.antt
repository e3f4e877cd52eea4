use Rattle.std.proofs.Common.{◌+◌, not}
use Rattle.push_history.specs.LiveHeavy.{same_key}
use Rattle.audit_law.specs.declared.failure.Value.TheVariants.{Key, Number}
use Rattle.audit_law.specs.Tests.{test}
use Rattle.audit_law.specs.LiveTests.{key_at}
use Rattle.audit_law.proofs.Failing.{AllPass}
use Rattle.live_audit.proofs.key_tests.twice_failure.Given as goal

abbrev pub invariant-loop-earlier : goal.invariant-loop-earlier
invariant-loop-earlier l =
    AllPass (λ e. test l.line (Key (key_at l.live l.place)) (Number (l.first + e)) (not (same_key (key_at l.live e) (key_at l.live l.place)))) l.earlier
