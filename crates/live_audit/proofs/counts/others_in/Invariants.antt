use Rattle.std.proofs.Common.{◌≡◌, ◌≤◌, take, count_by}
use Rattle.live_audit.specs.Counted.{is_missed}
use Rattle.live_audit.proofs.counts.others_in.Given as goal

abbrev pub invariant-loop-message : goal.invariant-loop-message
invariant-loop-message l = (l.count ≡ count_by (is_missed l.live) (take l.message-index l.messages)) × (l.count ≤ l.message-index)
