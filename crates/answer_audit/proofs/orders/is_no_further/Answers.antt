use Rattle.std.proofs.Common.{rules, arith, ◌≡◌, ◌<◌, true, length, get_or}
use Rattle.std.specs.Prelude.{nat_lt}
use Rattle.answer_audit.proofs.Placed.{further_at, no_further}
use Rattle.answer_audit.proofs.orders.is_no_further.Goals as goal

pub returns-then-other-worker : goal.returns-then-other-worker
returns-then-other-worker c =
    let w = c.loop-worker.worker in
    let lt : w < length c.args.front.now = search rules in
    let less : nat_lt (get_or c.args.other.now w 0) (get_or c.args.front.now w 0) ≡ true = search rules in
    further_at c.args.front.now c.args.other.now w lt less

pub returns : goal.returns
returns c =
    let end : c.loop-worker.worker ≡ length c.args.front.now = grind arith in
    no_further c.args.front.now c.args.other.now c.loop-worker.worker (omega (arith, end)) c.loop-worker.invariant
