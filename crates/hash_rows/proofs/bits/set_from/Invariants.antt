use Rattle.std.proofs.Common.{◌≡◌, ◌≤◌, ◌<◌, ◌+◌, ◌*◌, ℕ, false}
use Rattle.hash_rows.specs.Words.{is_set_in}
use Rattle.hash_rows.proofs.bits.set_from.Given as goal

abbrev pub invariant-loop-row : goal.invariant-loop-row
invariant-loop-row l = record {
  low : l.low < 64;
  begun : l.start ≤ l.row * 64 + l.low;
  clear : (k : ℕ) → l.start ≤ k → k < l.row * 64 + l.low → is_set_in l.words k ≡ false;
}
