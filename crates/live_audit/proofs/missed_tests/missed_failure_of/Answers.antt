use Rattle.std.proofs.Common.{◌≡◌, ◌∙◌, List, length, count_by, sym, ap}
use Rattle.packet_key.specs.declared.key.FlowKey.{FlowKey}
use Rattle.hash_rows.specs.Rules.{rules_of}
use Rattle.octo_text.specs.Content.{content_of}
use Rattle.told_table.specs.Tables.{all_messages, lists_of}
use Rattle.audit_law.specs.Firsts.{first_of}
use Rattle.live_audit.specs.Counted.{is_missed}
use Rattle.live_audit.proofs.Tested.{alone_as, missed_joined, others_are}
use Rattle.live_audit.proofs.missed_tests.missed_failure_of.Goals as goal

pub returns : goal.returns
unfolding content_of
returns g c =
    let kind = g.met.K.Kind g.world.𝓛 g.world.𝓜 g.world.𝓡 ((λ s x. x), (λ x. x), (λ x. x), (λ x. x)) in
    let r = g.K.Kind.rules in
    let j = c.args.journal.now in
    let o = j.options in
    let lists = c.args.lists.now in
    let known = c.requires.known in
    let same = kind.is_sketch ∙ ap rules_of (sym c.requires.sketch) in
    let others = c.count_others-others.ensures ∙ ap (λ (live : List FlowKey). count_by (is_missed live) (all_messages lists)) known.live_is ∙ others_are r o same lists j.lists.live.items in
    let live : c.len-live.result ≡ length j.lists.live.items = c.len-live.ensures in
    let is = alone_as r o same lists c.args.known.now.alone known.alone_is in
    let alone = c.missed_failure-alone.ensures _ _ _ is in
    c.first_of-3.ensures
    ∙ ap (first_of c.room_failure-room.result) (c.first_of-2.ensures ∙ ap (first_of c.number_failure-most.result) c.first_of.ensures)
    ∙ missed_joined o (content_of j) (lists_of lists) c.args.line c.len-live.result c.count_others-others.result
    c.room_failure-room.result c.number_failure-most.result c.in_ok-bounds.bounds c.missed_failure-alone.result
    c.requires.line live others c.room_failure-room.ensures c.number_failure-most.ensures c.in_ok-bounds.ensures alone
