use Rattle.std.proofs.lemmas.Grind.{common_steps}
use Rattle.std.proofs.lemmas.List.{take_all}
use Rattle.std.proofs.Common.{rules, arith, ◌≡◌, ◌≤◌, length, ◌+◌, ◌++◌, ◌&&◌, List, take, sym, ap, ◌∙◌}
use Rattle.std.specs.Global.{Vec}
use Rattle.hash_rows.specs.declared.shape.Push.{Push}
use Rattle.push_history.specs.LiveHeavy.{is_among}
use Rattle.told_table.specs.Tables.{all_messages}
use Rattle.live_audit.specs.Counted.{has_key}
use Rattle.live_audit.proofs.Counting.{lists_more}
use Rattle.live_audit.proofs.sent_keys.sent_of.Goals as goal

pub loop-list-preserved : goal.loop-list-preserved
loop-list-preserved c = λ key.
    let i = c.loop-list.list-index in
    let lists = c.args.lists.now in
    let all : all_messages (take (i + 1) lists) ≡ all_messages (take i lists) ++ c.deref.result.now = grind (arith, common_steps) in
    lists_more c.args.live.now c.loop-list.sent c.add_sent.new.sent (all_messages (take i lists)) c.deref.result.now key (c.loop-list.invariant key) (c.in_ok-add_sent.ensures key)
    ∙ ap (λ (ms : List Push). is_among c.args.live.now key && has_key ms key) (sym all)

pub returns : goal.returns
returns c = λ key.
    let long : length c.args.lists.now ≤ c.loop-list.list-index = search rules in
    let end : take c.loop-list.list-index c.args.lists.now ≡ c.args.lists.now = take_all c.loop-list.list-index c.args.lists.now long in
    c.loop-list.invariant key ∙ ap (λ (ls : List (Vec Push)). is_among c.args.live.now key && has_key (all_messages ls) key) end
