use Rattle.std.proofs.Common.{◌≡◌, ◌*◌}
use Rattle.hash_rows.proofs.WordCounts.{set_before}
use Rattle.hash_rows.proofs.bits.set_in.Given as goal

abbrev pub invariant-loop-word : goal.invariant-loop-word
invariant-loop-word l = l.count ≡ set_before l.words (l.word-index * 64)
