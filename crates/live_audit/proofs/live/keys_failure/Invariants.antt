use Rattle.std.proofs.Common.{List}
use Rattle.std.specs.Global.{Vec}
use Rattle.hash_rows.specs.declared.shape.Push.{Push}
use Rattle.octo_text.specs.Content.{content_of}
use Rattle.told_table.specs.Tables.{lists_of}
use Rattle.audit_law.specs.LiveTests.{live_tests}
use Rattle.audit_law.proofs.Failing.{NoneFail}
use Rattle.live_audit.specs.Known.{IsKnown}
use Rattle.live_audit.proofs.live.keys_failure.Given as goal

abbrev pub invariant-loop-place : goal.invariant-loop-place
invariant-loop-place g l = (lists : List (Vec Push)) → IsKnown g.K.Kind.rules l.journal.options l.journal.lists.live.items lists l.known
    → NoneFail (live_tests l.journal.options (content_of l.journal) (lists_of lists)) l.place
