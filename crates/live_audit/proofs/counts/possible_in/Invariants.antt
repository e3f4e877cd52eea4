use Rattle.std.proofs.Common.{◌≡◌, ◌≤◌, take, count_by}
use Rattle.live_audit.specs.Counted.{is_possible}
use Rattle.live_audit.proofs.counts.possible_in.Given as goal

abbrev pub invariant-loop-message : goal.invariant-loop-message
invariant-loop-message g l = (l.count ≡ count_by (is_possible g.K.Kind.rules l.table l.least l.live) (take l.message-index l.messages)) × (l.count ≤ l.message-index)
