use Rattle.aggregate.proofs.Kept.{ends_stay, takens_after, tied}
use Rattle.aggregate.proofs.taking.take_at.Goals as goal

pub take-requires : goal.take-requires
take-requires g c = tied c.args.lanes.now c.args.outs.now.items c.args.place _ _ c.requires.ends c.requires.place c.index-lanes-place.is c.get_mut.ensures.value

pub returns-clause-ends : goal.returns-clause-ends
returns-clause-ends g c = ends_stay c.args.lanes.now c.args.outs.now.items c.args.place c.get_mut.result.now c.take.new.pass c.get_mut.ensures.value c.requires.ends c.take.ensures.lane

pub returns-clause-taken : goal.returns-clause-taken
returns-clause-taken g c = takens_after c.args.outs.now.items c.args.place c.get_mut.result.now c.take.new.pass c.get_mut.ensures.value c.take.result c.take.ensures.taken
