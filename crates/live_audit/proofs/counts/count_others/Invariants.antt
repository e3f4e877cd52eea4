use Rattle.std.proofs.Common.{◌≡◌, ◌≤◌, ◌*◌, take, count_by}
use Rattle.told_table.specs.Tables.{all_messages}
use Rattle.live_audit.specs.Counted.{is_missed}
use Rattle.live_audit.proofs.counts.count_others.Given as goal

abbrev pub invariant-loop-list : goal.invariant-loop-list
invariant-loop-list l = (l.count ≡ count_by (is_missed l.live) (all_messages (take l.list-index l.lists))) × (l.count ≤ 134217728 * l.list-index)
