use Rattle.std.proofs.Common.{rules, ◌≡◌, ◌≤◌, ◌==◌, ◌∙◌, ℕ, List, length, count_by, ap}
use Rattle.std.specs.Global.{Vec}
use Rattle.std.proofs.lemmas.List.{take_all}
use Rattle.hash_rows.specs.declared.shape.Push.{Push}
use Rattle.told_table.specs.Tables.{lists_of}
use Rattle.audit_law.specs.LiveTests.{is_lone, some_sent}
use Rattle.live_audit.proofs.alone.is_lone.Goals as goal

pub returns : goal.returns
unfolding is_lone
returns c =
    let end : length c.args.lists.now ≤ c.loop-list.list-index = search rules in
    let is : c.loop-list.count ≡ count_by some_sent (lists_of c.args.lists.now) =
    c.loop-list.invariant.0 ∙ ap (λ (ls : List (Vec Push)). count_by some_sent (lists_of ls)) (take_all c.loop-list.list-index c.args.lists.now end) in
    ap (λ (n : ℕ). n == 1) is
