use Rattle.std.proofs.Common.{◌≡◌, length, None}
use Rattle.hash_rows.specs.Shapes.{size_of}
use Rattle.sketch_tests.proofs.one_worker.count_packet.Given as goal

abbrev pub invariant-loop-row : goal.invariant-loop-row
invariant-loop-row g l = (l.sketch.due ≡ None) × (l.sketch.room ≡ 1000) × (length l.sketch.held ≡ size_of l.shape)
