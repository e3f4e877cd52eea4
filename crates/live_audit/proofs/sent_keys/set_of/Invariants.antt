use Rattle.std.proofs.Common.{◌≡◌, take}
use Rattle.push_history.specs.LiveHeavy.{distinct_keys}
use Rattle.live_audit.proofs.sent_keys.set_of.Given as goal

abbrev pub invariant-loop-key : goal.invariant-loop-key
invariant-loop-key l = l.set ≡ distinct_keys (take l.key-index l.keys)
