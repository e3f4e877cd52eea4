use Rattle.std.proofs.Common.{rules, ◌≡◌, ℕ, true, false, sym, subst, arith}
use Rattle.std.specs.Prelude.{is_some, map}
use Rattle.std.specs.List.{range_with_len}
use Rattle.octo_text.specs.Content.{content_of}
use Rattle.audit_law.specs.WorkerTests.{all_given, given_by, worker_tests}
use Rattle.audit_law.proofs.Failing.{failing_early, none_failing_of, hold_more}
use Rattle.journal_audit.proofs.GivenRanges.{items_more}
use Rattle.journal_audit.proofs.given.given_of.Goals as goal

pub returns-then-is_some-clause-failure : goal.returns-then-is_some-clause-failure
returns-then-is_some-clause-failure g c =
    let o = c.args.journal.now.options in
    let some : is_some c.in_ok-given.given.failure ≡ true = search rules in
    failing_early (worker_tests c.args.packets.now o (content_of c.args.journal.now)) o.workers c.loop-worker.worker c.in_ok-given.given.failure
    c.loop-worker-test.true c.loop-worker.invariant.hold c.in_ok-given.ensures.failure some

pub loop-worker-preserved : goal.loop-worker-preserved
loop-worker-preserved g c =
    let o = c.args.journal.now.options in
    let inv = c.loop-worker.invariant in
    let none : is_some c.in_ok-given.given.failure ≡ false = search rules in
    record {
      messages = items_more (given_by c.args.packets.now o (content_of c.args.journal.now)) c.loop-worker.messages.items c.push_reserved.new.self.items c.in_ok-given.given.messages c.loop-worker.worker
          inv.messages c.push_reserved.ensures.items c.in_ok-given.ensures.messages;
      room = search rules;
      owners = inv.owners;
      len = search rules;
      hold = hold_more (worker_tests c.args.packets.now o (content_of c.args.journal.now)) c.loop-worker.worker c.in_ok-given.given.failure inv.hold c.in_ok-given.ensures.failure none;
    }

pub returns-clause-failure : goal.returns-clause-failure
returns-clause-failure g c =
    let o = c.args.journal.now.options in
    let end : c.loop-worker.worker ≡ o.workers = grind arith in
    sym (none_failing_of (worker_tests c.args.packets.now o (content_of c.args.journal.now)) o.workers (λ k lt. c.loop-worker.invariant.hold k (omega (arith, lt, end))))

pub returns-clause-messages : goal.returns-clause-messages
unfolding all_given
returns-clause-messages g c = λ none.
    let o = c.args.journal.now.options in
    let end : c.loop-worker.worker ≡ o.workers = grind arith in
    subst (λ (n : ℕ). map (λ v. v.items) c.loop-worker.messages.items ≡ map (given_by c.args.packets.now o (content_of c.args.journal.now)) (range_with_len 0 n)) end c.loop-worker.invariant.messages
