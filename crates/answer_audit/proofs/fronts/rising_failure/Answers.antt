use Rattle.std.proofs.Common.{rules, arith, ◌≡◌, ◌<◌, true, false, length, get_or, sym}
use Rattle.std.specs.Prelude.{nat_lt}
use Rattle.audit_law.specs.AnswerTests.{rising_test}
use Rattle.audit_law.proofs.Failing.{all_pass, pass_more}
use Rattle.answer_audit.proofs.Placed.{rises, rising_fails}
use Rattle.answer_audit.proofs.fronts.rising_failure.Goals as goal

pub returns-then-front-worker : goal.returns-then-front-worker
returns-then-front-worker c =
    let w = c.loop-worker.worker in
    let lt : w < length c.args.front.now = search rules in
    let less : nat_lt (get_or c.args.front.now w 0) (get_or c.args.before.now w 0) ≡ true = search rules in
    rising_fails c.args.line c.args.before.now c.args.front.now w lt c.loop-worker.invariant less

pub loop-worker-preserved : goal.loop-worker-preserved
loop-worker-preserved c =
    let w = c.loop-worker.worker in
    let less : nat_lt (get_or c.args.front.now w 0) (get_or c.args.before.now w 0) ≡ false = search rules in
    pass_more (rising_test c.args.line c.args.before.now c.args.front.now) w c.loop-worker.invariant (rises c.args.line c.args.before.now c.args.front.now w less)

pub returns : goal.returns
returns c =
    let all = c.loop-worker.invariant in
    let end : c.loop-worker.worker ≡ length c.args.front.now = grind arith in
    sym (all_pass (rising_test c.args.line c.args.before.now c.args.front.now) (length c.args.front.now) (λ k lt. all k (omega (arith, lt, end))))
