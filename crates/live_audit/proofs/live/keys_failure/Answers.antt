use Rattle.std.proofs.Common.{rules, arith, ◌≡◌, ◌<◌, length, true, false, sym}
use Rattle.std.specs.Prelude.{is_some}
use Rattle.octo_text.specs.Content.{content_of}
use Rattle.told_table.specs.Tables.{lists_of}
use Rattle.audit_law.specs.LiveTests.{live_tests}
use Rattle.audit_law.proofs.Failing.{failing_early, hold_more, none_failing_of}
use Rattle.live_audit.proofs.live.keys_failure.Goals as goal

pub returns-then-is_some : goal.returns-then-is_some
returns-then-is_some g c = λ lists known.
    let j = c.args.journal.now in
    let place = c.loop-place.place in
    let lt : place < length j.lists.live.items = search rules in
    let some : is_some c.live_key_failure-failure.result ≡ true = search rules in
    failing_early (live_tests j.options (content_of j) (lists_of lists)) (length j.lists.live.items) place c.live_key_failure-failure.result lt
    (c.loop-place.invariant lists known) (c.live_key_failure-failure.ensures lists known) some

pub loop-place-preserved : goal.loop-place-preserved
loop-place-preserved g c = λ lists known.
    let j = c.args.journal.now in
    let none : is_some c.live_key_failure-failure.result ≡ false = search rules in
    hold_more (live_tests j.options (content_of j) (lists_of lists)) c.loop-place.place c.live_key_failure-failure.result
    (c.loop-place.invariant lists known) (c.live_key_failure-failure.ensures lists known) none

pub returns : goal.returns
returns g c = λ lists known.
    let j = c.args.journal.now in
    let all = c.loop-place.invariant lists known in
    let end : c.loop-place.place ≡ length j.lists.live.items = grind arith in
    sym (none_failing_of (live_tests j.options (content_of j) (lists_of lists)) (length j.lists.live.items) (λ k lt. all k (omega (arith, lt, end))))
