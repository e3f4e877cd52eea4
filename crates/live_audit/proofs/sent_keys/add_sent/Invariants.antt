use Rattle.std.proofs.Common.{◌≡◌, ◌&&◌, ◌||◌, take}
use Rattle.packet_key.specs.declared.key.FlowKey.{FlowKey}
use Rattle.push_history.specs.LiveHeavy.{is_among}
use Rattle.live_audit.specs.Counted.{has_key}
use Rattle.live_audit.proofs.sent_keys.add_sent.Given as goal

abbrev pub invariant-loop-message : goal.invariant-loop-message
invariant-loop-message l =
    (key : FlowKey) → is_among l.sent key ≡ (is_among l.initial.sent key || (is_among l.live key && has_key (take l.message-index l.messages) key))
