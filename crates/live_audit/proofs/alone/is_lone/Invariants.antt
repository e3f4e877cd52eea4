use Rattle.std.proofs.Common.{◌≡◌, ◌≤◌, take, count_by}
use Rattle.told_table.specs.Tables.{lists_of}
use Rattle.audit_law.specs.LiveTests.{some_sent}
use Rattle.live_audit.proofs.alone.is_lone.Given as goal

abbrev pub invariant-loop-list : goal.invariant-loop-list
invariant-loop-list l = (l.count ≡ count_by some_sent (lists_of (take l.list-index l.lists))) × (l.count ≤ l.list-index)
