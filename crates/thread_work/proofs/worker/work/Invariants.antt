use Rattle.std.proofs.Common.{◌≡◌, ◌≤◌, ◌*◌, take, length}
use Rattle.std.specs.Prelude.{None}
use Rattle.push_history.specs.Updates.{updates_of}
use Rattle.thread_work.specs.Worked.{HasTold, KeepsSketch}
use Rattle.thread_work.proofs.worker.work.Given as goal

abbrev pub invariant-loop-place : goal.invariant-loop-place
invariant-loop-place g l = record {
  idle : l.sketch.due ≡ None;
  counted : l.sketch.counted ≡ l.shape.rows * l.place;
  same : KeepsSketch l.initial.sketch l.sketch;
  lane : l.pass.id ≡ l.lane.id;
  few : length l.pass.sent ≤ l.sketch.counted;
  told : HasTold g.K.Kind.stands g.K.Kind.rules l.worker l.lane.capacity l.full l.sketch l.pass (updates_of g.K.Kind.rules l.shape l.packets (take l.place l.share));
}
