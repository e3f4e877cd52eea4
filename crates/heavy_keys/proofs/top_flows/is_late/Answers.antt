use Rattle.std.proofs.Common.{◌≡◌, false, length, take, subst, arith, w64}
use Rattle.std.proofs.Math.Facts.{to_z-of_z}
use Rattle.std.specs.BTreeSet.{insert_key}
use Rattle.std.specs.Ordering.{is_lt}
use Rattle.heavy_keys.specs.Ranks.{flow_rank, rank_order}
use Rattle.heavy_keys.proofs.InOrder.{late, before_none}
use Rattle.heavy_keys.proofs.RankOrder.{total}
use Rattle.heavy_keys.proofs.top_flows.is_late.Goals as goal

pub returns-in-Some : goal.returns-in-Some
returns-in-Some c = λ yes.
    let full : length c.args.top.now.keys ≡ c.args.most = omega (arith, c.requires, c.if-len-most.false, c.len.ensures.len) in
    let exact = to_z-of_z {w = w64} {z = c.args.estimate} c.ranges.estimate in
    let later = subst (λ z. is_lt (rank_order (flow_rank z c.args.key.now) c.in-Some.last.now) ≡ false) exact (c.is_behind.ensures yes) in
    subst (λ n. take n (insert_key rank_order c.args.top.now.keys (flow_rank c.args.estimate c.args.key.now)) ≡ c.args.top.now.keys) full
    (late rank_order c.args.top.now.keys (flow_rank c.args.estimate c.args.key.now)
    (before_none rank_order total c.args.top.now.keys c.in-Some.last.now (flow_rank c.args.estimate c.args.key.now) c.in-Some.ensures.all_up_to later))
