use Rattle.packet_key.specs.declared.key.FlowKey.{FlowKey}
use Rattle.live_audit.specs.Known.{IsKnown}
use Rattle.std.proofs.Common.{rules, List, subst, ◌≡◌, ◌+◌, ◌++◌, ◌∙◌, ℕ, length, true, false, sym, ap}
use Rattle.std.specs.Prelude.{Option, is_some}
use Rattle.std.specs.List.{flat_map, range_with_len}
use Rattle.octo_text.specs.Content.{content_of}
use Rattle.told_table.specs.Tables.{lists_of}
use Rattle.audit_law.specs.declared.failure.Failure.{Failure}
use Rattle.audit_law.specs.Firsts.{first_of}
use Rattle.audit_law.specs.Tests.{first_failing}
use Rattle.audit_law.specs.LiveTests.{live_tests, missed_tests}
use Rattle.audit_law.proofs.Failing.{absent, first_alone, first_of_both}
use Rattle.live_audit.proofs.Tested.{if_ok, keys_line}
use Rattle.live_audit.proofs.live.live_failure.Goals as goal

pub returns-then-is_some : goal.returns-then-is_some
returns-then-is_some g c =
    let j = c.args.journal.now in
    let lists = c.args.lists.now in
    let some : is_some c.keys_failure-failure.result ≡ true = search rules in
    let known = subst (λ (live : List FlowKey). IsKnown g.K.Kind.rules j.options live lists c.in_ok-known.known) c.as_slice.ensures c.in_ok-known.ensures in
    let keys = flat_map (live_tests j.options (content_of j) (lists_of lists)) (range_with_len 0 (length j.lists.live.items)) in
    let missed = missed_tests j.options (content_of j) (lists_of lists) in
    first_alone c.keys_failure-failure.result (first_failing missed) some
    ∙ ap (λ (f : Option Failure). first_of f (first_failing missed)) (c.keys_failure-failure.ensures lists known)
    ∙ sym (first_of_both keys missed)

pub missed_failure_of-requires-clause-line : goal.missed_failure_of-requires-clause-line
missed_failure_of-requires-clause-line g c κs within =
    ap (λ (n : ℕ). c.args.first + n) c.len.ensures ∙ keys_line c.args.journal.now c.args.first c.requires.first

pub returns : goal.returns
returns g c =
    let j = c.args.journal.now in
    let lists = c.args.lists.now in
    let no : is_some c.keys_failure-failure.result ≡ false = search rules in
    let known = subst (λ (live : List FlowKey). IsKnown g.K.Kind.rules j.options live lists c.in_ok-known.known) c.as_slice.ensures c.in_ok-known.ensures in
    let keys = flat_map (live_tests j.options (content_of j) (lists_of lists)) (range_with_len 0 (length j.lists.live.items)) in
    let missed = missed_tests j.options (content_of j) (lists_of lists) in
    let none = sym (c.keys_failure-failure.ensures lists known) ∙ absent c.keys_failure-failure.result no in
    let all : first_failing missed ≡ first_failing (keys ++ missed) = sym (first_of_both keys missed ∙ ap (λ (f : Option Failure). first_of f (first_failing missed)) none) in
    if_ok c.missed_failure_of.result (first_failing missed) (first_failing (keys ++ missed)) all c.missed_failure_of.ensures
