use Rattle.std.proofs.Common.{rules, arith, ◌≡◌, ◌<◌, ◌^◌, ◌+◌, ◌∙◌, ◌++◌, ℕ, List, length, true, false, sym, ap, subst}
use Rattle.std.specs.Prelude.{All, is_some}
use Rattle.std.specs.Global.{Vec}
use Rattle.std.specs.List.{flat_map, range_with_len}
use Rattle.hash_rows.specs.declared.shape.Push.{Push}
use Rattle.hash_rows.specs.Rules.{Rules, rules_of}
use Rattle.octo_text.specs.Content.{content_of}
use Rattle.told_table.specs.Tables.{AreSent, lists_of}
use Rattle.live_audit.specs.Counted.{AreFew}
use Rattle.live_audit.proofs.Tested.{if_ok}
use Rattle.audit_law.specs.Tests.{first_failing}
use Rattle.audit_law.specs.LiveTests.{live_tests, missed_tests}
use Rattle.audit_law.specs.WorkerTests.{all_given}
use Rattle.audit_law.specs.Judged.{tests_of}
use Rattle.audit_law.proofs.Failing.{absent}
use Rattle.journal_audit.proofs.Formed.{answers_few, first_answer, first_live, given_few, given_long, given_sent, has_form}
use Rattle.journal_audit.proofs.Joined.{answer_first, answers_same, live_first, live_same, worker_first}
use Rattle.journal_audit.proofs.threads.threads_failure.Goals as goal

pub returns-then-is_some : goal.returns-then-is_some
returns-then-is_some g c =
    let some : is_some c.in_ok-given.given.failure ≡ true = search rules in
    worker_first c.args.packets.now c.args.journal.now.options (content_of c.args.journal.now) c.in_ok-given.given.failure c.in_ok-given.ensures.failure some

pub answers_failure-requires-clause-few : goal.answers_failure-requires-clause-few
answers_failure-requires-clause-few g c κs within = omega (arith, answers_few c.args.journal.now c.requires.readable)

pub answers_failure-requires-clause-workers : goal.answers_failure-requires-clause-workers
answers_failure-requires-clause-workers g c κs within =
    let no : is_some c.in_ok-given.given.failure ≡ false = search rules in
    let j = c.args.journal.now in
    ap length c.deref.ensures.value
    ∙ given_long c.args.packets.now j.options (content_of j) c.in_ok-given.given.messages.items (c.in_ok-given.ensures.messages (absent c.in_ok-given.given.failure no))

pub answers_failure-requires-clause-sent : goal.answers_failure-requires-clause-sent
answers_failure-requires-clause-sent g c κs within =
    let kind = g.met.K.Kind g.world.𝓛 g.world.𝓜 g.world.𝓡 ((λ s x. x), (λ x. x), (λ x. x), (λ x. x)) in
    let no : is_some c.in_ok-given.given.failure ≡ false = search rules in
    let small : All (λ p. p.amount < 2 ^ 32) c.args.packets.now = search rules in
    let packets = c.args.packets.now in
    let j = c.args.journal.now in
    let o = j.options in
    let gone = absent c.in_ok-given.given.failure no in
    let same = kind.is_sketch ∙ ap rules_of (sym c.requires.sketch) in
    let lists = ap (λ (ls : List (Vec Push)). lists_of ls) c.deref.ensures.value ∙ c.in_ok-given.ensures.messages gone in
    subst (λ (ms : List (List Push)). AreSent g.K.Kind.rules o.shape ms) (sym lists)
    (subst (λ (r : Rules). AreSent r o.shape (all_given packets o (content_of j))) (sym same)
    (given_sent packets o c.requires.readable.lawful small (content_of j) (has_form j c.requires.readable) (sym c.in_ok-given.ensures.failure ∙ gone)))

pub answers_failure-requires-clause-line : goal.answers_failure-requires-clause-line
answers_failure-requires-clause-line g c κs within = first_answer c.args.journal.now c.line_of_worker-line.result c.requires.readable c.line_of_worker-line.ensures.line

pub returns-then-is_some-2 : goal.returns-then-is_some-2
returns-then-is_some-2 g c =
    let no : is_some c.in_ok-given.given.failure ≡ false = search rules in
    let some : is_some c.in_ok-failure.failure ≡ true = search rules in
    let j = c.args.journal.now in
    let packets = c.args.packets.now in
    let gone = absent c.in_ok-given.given.failure no in
    let lists = ap (λ (ls : List (Vec Push)). lists_of ls) c.deref.ensures.value ∙ c.in_ok-given.ensures.messages gone in
    answer_first packets j.options (content_of j) c.in_ok-failure.failure (sym c.in_ok-given.ensures.failure ∙ gone)
    (c.in_ok-failure.ensures ∙ answers_same packets j (lists_of c.deref.result.now) lists) some

pub overflow_add-first : goal.overflow_add-first
overflow_add-first g c = omega (arith, c.line_of_worker-line.ensures.most, c.len.ensures, answers_few c.args.journal.now c.requires.readable)

pub live_failure-requires-clause-low : goal.live_failure-requires-clause-low
live_failure-requires-clause-low g c κs within = omega (arith, c.line_of_worker-line.ensures.most, c.len.ensures, answers_few c.args.journal.now c.requires.readable)

pub live_failure-requires-clause-workers : goal.live_failure-requires-clause-workers
live_failure-requires-clause-workers g c κs within =
    let no : is_some c.in_ok-given.given.failure ≡ false = search rules in
    let j = c.args.journal.now in
    ap length c.deref-2.ensures.value
    ∙ given_long c.args.packets.now j.options (content_of j) c.in_ok-given.given.messages.items (c.in_ok-given.ensures.messages (absent c.in_ok-given.given.failure no))

pub live_failure-requires-clause-few : goal.live_failure-requires-clause-few
live_failure-requires-clause-few g c κs within =
    let no : is_some c.in_ok-given.given.failure ≡ false = search rules in
    let j = c.args.journal.now in
    let gone = absent c.in_ok-given.given.failure no in
    subst (λ (ls : List (Vec Push)). AreFew ls) (sym c.deref-2.ensures.value)
    (given_few c.args.packets.now j c.in_ok-given.given.messages.items c.requires.readable (sym c.in_ok-given.ensures.failure ∙ gone) (c.in_ok-given.ensures.messages gone))

pub live_failure-requires-clause-sent : goal.live_failure-requires-clause-sent
live_failure-requires-clause-sent g c κs within =
    let kind = g.met.K.Kind g.world.𝓛 g.world.𝓜 g.world.𝓡 ((λ s x. x), (λ x. x), (λ x. x), (λ x. x)) in
    let no : is_some c.in_ok-given.given.failure ≡ false = search rules in
    let small : All (λ p. p.amount < 2 ^ 32) c.args.packets.now = search rules in
    let packets = c.args.packets.now in
    let j = c.args.journal.now in
    let o = j.options in
    let gone = absent c.in_ok-given.given.failure no in
    let same = kind.is_sketch ∙ ap rules_of (sym c.requires.sketch) in
    let lists = ap (λ (ls : List (Vec Push)). lists_of ls) c.deref-2.ensures.value ∙ c.in_ok-given.ensures.messages gone in
    subst (λ (ms : List (List Push)). AreSent g.K.Kind.rules o.shape ms) (sym lists)
    (subst (λ (r : Rules). AreSent r o.shape (all_given packets o (content_of j))) (sym same)
    (given_sent packets o c.requires.readable.lawful small (content_of j) (has_form j c.requires.readable) (sym c.in_ok-given.ensures.failure ∙ gone)))

pub live_failure-requires-clause-first : goal.live_failure-requires-clause-first
live_failure-requires-clause-first g c κs within =
    let j = c.args.journal.now in
    ap (λ (n : ℕ). c.line_of_worker-line.result + n) c.len.ensures
    ∙ first_live j c.line_of_worker-line.result (first_answer j c.line_of_worker-line.result c.requires.readable c.line_of_worker-line.ensures.line)

pub returns : goal.returns
returns g c =
    let no : is_some c.in_ok-given.given.failure ≡ false = search rules in
    let clear : is_some c.in_ok-failure.failure ≡ false = search rules in
    let j = c.args.journal.now in
    let o = j.options in
    let packets = c.args.packets.now in
    let gone = absent c.in_ok-given.given.failure no in
    let none = sym c.in_ok-given.ensures.failure ∙ gone in
    let given = c.in_ok-given.ensures.messages gone in
    let lists = ap (λ (ls : List (Vec Push)). lists_of ls) c.deref.ensures.value ∙ given in
    let listed = ap (λ (ls : List (Vec Push)). lists_of ls) c.deref-2.ensures.value ∙ given in
    let answers = sym (answers_same packets j (lists_of c.deref.result.now) lists) ∙ sym c.in_ok-failure.ensures ∙ absent c.in_ok-failure.failure clear in
    let live = flat_map (live_tests o (content_of j) (lists_of c.deref-2.result.now)) (range_with_len 0 (length j.lists.live.items)) ++ missed_tests o (content_of j) (lists_of c.deref-2.result.now) in
    if_ok c.live_failure.result (first_failing live) (first_failing (tests_of packets o (content_of j)))
    (live_first packets o (content_of j) (first_failing live) none answers (live_same packets j (lists_of c.deref-2.result.now) listed)) c.live_failure.ensures
