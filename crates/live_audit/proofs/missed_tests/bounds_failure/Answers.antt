use Rattle.std.proofs.Common.{rules, ◌≡◌, ◌∙◌, List, count_by, true, sym, ap}
use Rattle.hash_rows.specs.Rules.{rules_of}
use Rattle.packet_key.specs.declared.key.FlowKey.{FlowKey}
use Rattle.std.specs.List.{flat_map}
use Rattle.push_history.specs.LiveHeavy.{notes_of}
use Rattle.live_audit.specs.Counted.{is_possible, is_sure}
use Rattle.octo_text.specs.Content.{content_of}
use Rattle.told_table.specs.Tables.{all_messages, lists_of}
use Rattle.audit_law.specs.LiveTests.{is_count_min}
use Rattle.live_audit.proofs.Counting.{lists_fit}
use Rattle.live_audit.proofs.Tested.{bounds_parts, possible_are, sure_are}
use Rattle.live_audit.proofs.missed_tests.bounds_failure.Goals as goal

pub count_sure-requires-clause-fit : goal.count_sure-requires-clause-fit
count_sure-requires-clause-fit g c κs within = lists_fit g.K.Kind.rules c.args.journal.now.options.shape c.args.lists.now c.requires.sent

pub returns : goal.returns
unfolding content_of
returns g c =
    let kind = g.met.K.Kind g.world.𝓛 g.world.𝓜 g.world.𝓡 ((λ s x. x), (λ x. x), (λ x. x), (λ x. x)) in
    let r = g.K.Kind.rules in
    let j = c.args.journal.now in
    let o = j.options in
    let lists = c.args.lists.now in
    let known = c.requires.known in
    let same = kind.is_sketch ∙ ap rules_of (sym c.requires.sketch) in
    let cm : is_count_min o.sketch ≡ true = search rules in
    let counted : c.in_ok-sure.sure ≡ count_by (is_sure o.least c.args.known.now.live) (flat_map (λ list. notes_of r o.shape list.items) lists) = search rules in
    let sure = counted ∙ ap (λ (live : List FlowKey). count_by (is_sure o.least live) (flat_map (λ list. notes_of r o.shape list.items) lists)) known.live_is ∙ sure_are r o same lists j.lists.live.items in
    let counts : c.count_possible-possible.result ≡ count_by (is_possible r c.args.known.now.table o.least c.args.known.now.live) (all_messages lists) = search rules in
    let possible = counts ∙ ap (λ (live : List FlowKey). count_by (is_possible r c.args.known.now.table o.least live) (all_messages lists)) known.live_is
    ∙ possible_are r o same lists j.lists.live.items c.args.known.now.table known.shape known.told in
    c.first_of.ensures
    ∙ bounds_parts c.args.line o (content_of j) (lists_of lists) c.in_ok-sure.sure c.count_possible-possible.result c.number_failure-few.result c.number_failure.result cm sure possible
    c.number_failure-few.ensures c.number_failure.ensures
