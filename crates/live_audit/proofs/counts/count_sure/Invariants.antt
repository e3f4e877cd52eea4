use Rattle.std.proofs.Common.{◌≡◌, ◌≤◌, ◌*◌, take, count_by}
use Rattle.std.specs.List.{flat_map}
use Rattle.push_history.specs.LiveHeavy.{notes_of}
use Rattle.live_audit.specs.Counted.{is_sure}
use Rattle.live_audit.proofs.counts.count_sure.Given as goal

abbrev pub invariant-loop-list : goal.invariant-loop-list
invariant-loop-list g l =
    (l.count ≡ count_by (is_sure l.least l.live) (flat_map (λ list. notes_of g.K.Kind.rules l.shape list.items) (take l.list-index l.lists))) × (l.count ≤ 134217728 * l.list-index)
