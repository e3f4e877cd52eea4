use Rattle.std.proofs.Common.{rules, arith, ◌≡◌, ◌<◌, ◌==◌, false, length, get_or}
use Rattle.answer_audit.proofs.Placed.{all_alike, unlike_at}
use Rattle.answer_audit.proofs.orders.first_unlike.Goals as goal

pub returns-then-front-worker : goal.returns-then-front-worker
returns-then-front-worker c =
    let w = c.loop-worker.worker in
    let lt : w < length c.args.front.now = search rules in
    let differ : (get_or c.args.front.now w 0 == get_or c.args.other.now w 0) ≡ false = search rules in
    unlike_at c.args.front.now c.args.other.now w c.requires lt c.loop-worker.invariant differ

pub returns : goal.returns
returns c =
    let all = c.loop-worker.invariant in
    let end : c.loop-worker.worker ≡ length c.args.front.now = grind arith in
    all_alike c.args.front.now c.args.other.now c.requires (λ k lt. all k (omega (arith, lt, end)))
