use Rattle.std.proofs.Common.{◌<◌, ◌≤◌, length, ◌∙◌, arith, refl}
use Rattle.thread_ends.specs.Ends.{IsOne}
use Rattle.thread_ends.proofs.Joined.{joined_all, joined_next, joined_none, joined_sketches}
use Rattle.thread_ends.proofs.joining.take_in_all.Goals as goal

pub loop-lane-init : goal.loop-lane-init
loop-lane-init g c = record {
  joined = rw (c.into_iter-workers.ensures.rest, c.into_iter-outs.ensures.rest, c.into_items.ensures, c.requires.passes_room.0, c.requires.sketches_room.0)
      (joined_none c.args.lanes.now c.args.workers.items c.args.outs.items c.requires.workers c.requires.ids c.requires.ends);
  passes_room = refl;
  sketches_room = refl;
}

pub loop-lane-preserved : goal.loop-lane-preserved
loop-lane-preserved g c =
    let lanes = c.args.lanes.now in
    let i = c.loop-lane.lane-index in
    let lane = c.lane-item.result in
    let within : i < length lanes = c.loop-lane-test.true in
    let h = c.loop-lane.invariant in
    let e = c.take_in_one.ensures in
    let one = e.pass.0 in
    let is : IsOne lane c.in-Some.worker.pass c.in-Some-next.out one = e.pass.2 in
    record {
      joined = rw (e.pass.1, e.sketch) (joined_next lanes c.args.workers.items c.args.outs.items i _ _ c.loop-lane.passes.items c.loop-lane.sketches.items h.joined lane within
          c.in-Some.worker _ c.in-Some.ensures.items c.in-Some-next.out _ c.in-Some-next.ensures.items one (rw (← c.lane-item.is) is));
      passes_room = e.room.0 ∙ h.passes_room;
      sketches_room = e.room.1 ∙ h.sketches_room;
    }

pub returns-clause-sketches : goal.returns-clause-sketches
returns-clause-sketches g c =
    let lanes = c.args.lanes.now in
    let end : length lanes ≤ c.loop-lane.lane-index = omega (arith, c.loop-lane-test.false) in
    joined_sketches lanes c.args.workers.items c.args.outs.items c.loop-lane.lane-index _ _ c.loop-lane.passes.items c.loop-lane.sketches.items c.loop-lane.invariant.joined end

pub returns-clause-passes : goal.returns-clause-passes
returns-clause-passes g c =
    let lanes = c.args.lanes.now in
    let end : length lanes ≤ c.loop-lane.lane-index = omega (arith, c.loop-lane-test.false) in
    joined_all lanes c.args.workers.items c.args.outs.items c.loop-lane.lane-index _ _ c.loop-lane.passes.items c.loop-lane.sketches.items c.loop-lane.invariant.joined end
