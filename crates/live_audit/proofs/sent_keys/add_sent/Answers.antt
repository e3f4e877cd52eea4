use Rattle.std.proofs.lemmas.List.{take_more}
use Rattle.std.proofs.Common.{rules, ◌≡◌, ◌<◌, length, ◌+◌, ◌++◌, ◌∷◌, ◌&&◌, ◌||◌, [], List, take, sym, ap, ◌∙◌}
use Rattle.packet_key.specs.declared.key.FlowKey.{FlowKey}
use Rattle.hash_rows.specs.declared.shape.Push.{Push}
use Rattle.push_history.specs.Front.{message_at}
use Rattle.push_history.specs.LiveHeavy.{is_among}
use Rattle.live_audit.specs.Counted.{has_key}
use Rattle.live_audit.proofs.Counting.{no_message, sent_more}
use Rattle.live_audit.proofs.sent_keys.add_sent.Goals as goal

pub loop-message-preserved : goal.loop-message-preserved
loop-message-preserved c = λ key.
    let i = c.loop-message.message-index in
    let messages = c.args.messages.now in
    let m = message_at messages i in
    let lt : i < length messages = search rules in
    let all : take (i + 1) messages ≡ take i messages ++ m ∷ [] = take_more messages i no_message lt in
    ap (λ (ks : List FlowKey). is_among ks key) c.in_ok-add_live.ensures
    ∙ sent_more c.args.live.now c.loop-message.sent (take i messages) m key (is_among c.args.sent.now key) (c.loop-message.invariant key)
    ∙ ap (λ (ms : List Push). is_among c.args.sent.now key || (is_among c.args.live.now key && has_key ms key)) (sym all)
