use Rattle.std.proofs.Common.{◌≡◌, ◌+◌, ◌++◌, ℕ, List, map}
use Rattle.std.specs.List.{range_with_len}
use Rattle.hash_rows.specs.Marks.{marked}
use Rattle.hash_rows.specs.declared.shape.Update.{Update}
use Rattle.push_history.specs.Updates.{update_in_row}
use Rattle.push_replay.specs.Replays.{KeepsSize, Tells}
use Rattle.push_replay.proofs.worker.count_packet.Given as goal

abbrev pub invariant-loop-row : goal.invariant-loop-row
invariant-loop-row g l = record {
  tells : (w T : ℕ) (updates : List Update) → Tells g.K.Kind.stands g.K.Kind.rules w T (marked l.refused) updates l.initial.replay
      → Tells g.K.Kind.stands g.K.Kind.rules w T (marked l.refused) (updates ++ map (update_in_row g.K.Kind.rules l.shape l.position l.packet) (range_with_len 0 l.row)) l.replay;
  counted : l.replay.sketch.counted ≡ l.initial.replay.sketch.counted + l.row;
  same : KeepsSize l.initial.replay l.replay;
}
