use Rattle.thread_ends.proofs.Drained.{lists_stay, order_after, takens_after, tied}
use Rattle.thread_ends.proofs.draining.drain_at.Goals as goal

pub drain-requires : goal.drain-requires
drain-requires g c = tied c.args.lanes.now c.args.passes.now.items c.args.place _ _ c.requires.ids c.index-lanes-place.is c.get_mut.ensures.value

pub returns-clause-kept : goal.returns-clause-kept
returns-clause-kept g c =
    let e = c.drain.ensures in
    lists_stay c.args.passes.now.items c.args.place c.get_mut.result.now c.drain.new.pass c.get_mut.ensures.value e.lane e.kept.0 e.kept.1

pub returns-clause-order : goal.returns-clause-order
returns-clause-order g c =
    order_after c.args.passes.now.items c.args.place c.get_mut.result.now c.drain.new.pass c.get_mut.ensures.value c.requires.order c.drain.ensures.kept.0 c.drain.result c.drain.ensures.taken

pub returns-clause-taken : goal.returns-clause-taken
returns-clause-taken g c = takens_after c.args.passes.now.items c.args.place c.get_mut.result.now c.drain.new.pass c.get_mut.ensures.value c.drain.result c.drain.ensures.taken
