use Rattle.std.proofs.Common.{rules, ◌≡◌, ◌+◌, ◌∷◌, ◌&&◌, ◌||◌, ◌∙◌, List, [], Bool, not, nat_lt, map, sym, ap}
use Rattle.std.specs.Prelude.{int_le}
use Rattle.std.specs.List.{range_with_len}
use Rattle.std.proofs.lemmas.Option.{get_or_from_slice_get}
use Rattle.packet_key.specs.declared.key.FlowKey.{FlowKey}
use Rattle.hash_rows.specs.Rules.{rules_of}
use Rattle.push_history.specs.LiveHeavy.{same_key}
use Rattle.push_history.specs.Share.{zero_key}
use Rattle.push_history.specs.LawfulJournal.{estimate_on_all}
use Rattle.octo_text.specs.Content.{content_of}
use Rattle.told_table.specs.Tables.{lists_of}
use Rattle.audit_law.specs.declared.failure.Value.TheVariants.{Key, Number, Signed}
use Rattle.audit_law.specs.Firsts.{first_of}
use Rattle.audit_law.specs.LiveTests.{is_count_min, is_loglog, is_sent_key, key_at}
use Rattle.audit_law.specs.Tests.{first_failing, test}
use Rattle.live_audit.proofs.Tested.{alone_as, estimate_is, heard_is, key_joined, live_line_at}
use Rattle.live_audit.proofs.key_tests.live_key_failure.Goals as goal

pub returns : goal.returns
unfolding content_of
returns g c = λ lists known.
    let kind = g.met.K.Kind g.world.𝓛 g.world.𝓜 g.world.𝓡 ((λ s x. x), (λ x. x), (λ x. x), (λ x. x)) in
    let r = g.K.Kind.rules in
    let j = c.args.journal.now in
    let o = j.options in
    let place = c.args.place in
    let first = c.args.first in
    let at = first + place in
    let key = c.get-key.result.now in
    let same = kind.is_sketch ∙ ap rules_of (sym c.requires.sketch) in
    let key_is : key ≡ key_at j.lists.live.items place = sym (get_or_from_slice_get j.lists.live.items place key zero_key c.get-key.ensures) in
    let heard = c.may_live-sent.ensures
    ∙ ap (λ (b : Bool). not (is_loglog o.sketch) && b) (heard_is r o same lists j.lists.live.items c.args.known.now.sent place key c.get-key.ensures (known.sent_is key))
    ∙ ap (λ (k : FlowKey). not (is_loglog o.sketch) && is_sent_key (lists_of lists) k) key_is in
    let estimate = r.estimate c.args.known.now.table.shape c.args.known.now.table.cells key in
    let says = estimate_is r o same lists c.args.known.now.table key known.shape known.told ∙ ap (estimate_on_all o (lists_of lists)) key_is in
    let twice = c.twice_failure-twice.ensures
    ∙ ap (λ (live : List FlowKey). first_failing (map (λ e. test at (Key (key_at live place)) (Number (first + e)) (not (same_key (key_at live e) (key_at live place)))) (range_with_len 0 place))) c.as_slice.ensures in
    let room : c.number_failure-room.result ≡ first_failing (test at (Number (place + 1)) (Number o.heavy) (nat_lt place o.heavy) ∷ []) = search rules in
    let reach : c.reach_failure-reach.result ≡ first_failing (test at (Signed estimate) (Signed o.least) (not (is_count_min o.sketch) || int_le o.least estimate) ∷ []) = search rules in
    c.first_of-4.ensures
    ∙ ap (first_of c.failure_of-absent.result) (c.first_of-3.ensures ∙ ap (first_of c.twice_failure-twice.result) (c.first_of-2.ensures ∙ ap (first_of c.number_failure-room.result) c.first_of.ensures))
    ∙ key_joined o (content_of j) (lists_of lists) place at first (live_line_at (content_of j) first place c.requires.first) c.requires.first key key_is
    c.may_live-sent.result estimate c.failure_of-absent.result c.twice_failure-twice.result c.number_failure-room.result c.reach_failure-reach.result c.key_failure-alone.result
    heard says c.failure_of-absent.ensures twice room reach
    (c.key_failure-alone.ensures _ _ _ (alone_as r o same lists c.args.known.now.alone known.alone_is))
