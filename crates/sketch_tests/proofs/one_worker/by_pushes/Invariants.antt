use Rattle.std.proofs.Common.{◌≡◌, length, None}
use Rattle.hash_rows.specs.Shapes.{size_of}
use Rattle.sketch_tests.proofs.one_worker.by_pushes.Given as goal

abbrev pub invariant-loop-packet : goal.invariant-loop-packet
invariant-loop-packet g l = (l.sketch.due ≡ None) × (l.sketch.room ≡ 1000) × (length l.sketch.held ≡ size_of l.shape)
