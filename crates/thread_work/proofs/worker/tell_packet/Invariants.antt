use Rattle.std.proofs.Common.{◌≡◌, ◌≤◌, ◌+◌, ◌++◌, List, length}
use Rattle.std.specs.Prelude.{None}
use Rattle.hash_rows.specs.declared.shape.Update.{Update}
use Rattle.thread_work.specs.Worked.{HasTold, KeepsSketch, updates_of_packet}
use Rattle.thread_work.proofs.worker.tell_packet.Given as goal

abbrev pub invariant-loop-row : goal.invariant-loop-row
invariant-loop-row g l = record {
  idle : l.sketch.due ≡ None;
  counted : l.sketch.counted ≡ l.initial.sketch.counted + l.row;
  same : KeepsSketch l.initial.sketch l.sketch;
  lane : l.pass.id ≡ l.lane.id;
  few : length l.pass.sent ≤ l.sketch.counted;
  told : (updates : List Update) → HasTold g.K.Kind.stands g.K.Kind.rules l.worker l.lane.capacity l.full l.initial.sketch l.initial.pass updates
      → HasTold g.K.Kind.stands g.K.Kind.rules l.worker l.lane.capacity l.full l.sketch l.pass (updates ++ updates_of_packet g.K.Kind.rules l.shape l.position l.packet l.row);
}
