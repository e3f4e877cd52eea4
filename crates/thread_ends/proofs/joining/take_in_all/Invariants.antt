use Rattle.std.proofs.Common.{◌≡◌}
use Rattle.std.specs.Vec.Iter.{into_iter_items}
use Rattle.thread_ends.proofs.Joined.{AreJoined}
use Rattle.thread_ends.proofs.joining.take_in_all.Given as goal

abbrev pub invariant-loop-lane : goal.invariant-loop-lane
invariant-loop-lane g l = record {
  joined : AreJoined l.lanes l.fn.workers.items l.fn.outs.items l.lane-index (into_iter_items l.workers) (into_iter_items l.outs) l.passes.items l.sketches.items;
  passes_room : l.passes.room ≡ l.fn.passes.room;
  sketches_room : l.sketches.room ≡ l.fn.sketches.room;
}
