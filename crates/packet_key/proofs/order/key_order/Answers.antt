use Rattle.std.proofs.Common.{◌∙◌}
use Rattle.packet_key.proofs.Ordered.{cmp_is_order}
use Rattle.packet_key.proofs.order.key_order.Goals as goal

pub returns : goal.returns
returns c = c.cmp.ensures ∙ cmp_is_order c.args.a.now c.args.b.now c.in_range.ensures c.in_range-2.ensures
