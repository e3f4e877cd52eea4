use Rattle.std.proofs.Common.{◌≡◌, ◌*◌, length, take}
use Rattle.std.specs.Prelude.{None}
use Rattle.hash_rows.specs.Marks.{marked}
use Rattle.hash_rows.specs.Shapes.{size_of}
use Rattle.push_history.specs.Updates.{updates_of}
use Rattle.push_replay.specs.Replays.{Tells}
use Rattle.push_replay.proofs.worker.replay_worker.Given as goal

abbrev pub invariant-loop-place : goal.invariant-loop-place
invariant-loop-place g l = record {
  tells : Tells g.K.Kind.stands g.K.Kind.rules l.worker l.options.threshold (marked l.refused)
      (updates_of g.K.Kind.rules l.options.shape l.packets (take l.place l.positions)) l.replay;
  counted : l.replay.sketch.counted ≡ l.options.shape.rows * l.place;
  cells : length l.replay.sketch.held ≡ size_of l.options.shape;
  room : l.replay.sketch.room ≡ l.options.shape.rows * length l.positions;
  lane : l.replay.lane ≡ l.options.lane;
  idle : l.replay.sketch.due ≡ None;
}
