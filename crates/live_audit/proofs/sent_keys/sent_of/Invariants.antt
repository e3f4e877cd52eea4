use Rattle.std.proofs.Common.{◌≡◌, ◌&&◌, take}
use Rattle.packet_key.specs.declared.key.FlowKey.{FlowKey}
use Rattle.push_history.specs.LiveHeavy.{is_among}
use Rattle.told_table.specs.Tables.{all_messages}
use Rattle.live_audit.specs.Counted.{has_key}
use Rattle.live_audit.proofs.sent_keys.sent_of.Given as goal

abbrev pub invariant-loop-list : goal.invariant-loop-list
invariant-loop-list l = (key : FlowKey) → is_among l.sent key ≡ (is_among l.live key && has_key (all_messages (take l.list-index l.lists)) key)
