use Rattle.std.proofs.Common.{◌≡◌, ◌≤◌, ◌-◌, ◌||◌, ℕ, length}
use Rattle.hash_rows.specs.Words.{is_set_in, is_between}
use Rattle.hash_rows.proofs.bits.set_between.Given as goal

abbrev pub invariant-loop-place : goal.invariant-loop-place
invariant-loop-place l = record {
  low : l.start ≤ l.place;
  high : l.place ≤ l.end;
  len : length l.words.items ≡ length l.initial.words.items;
  bits : (k : ℕ) → is_set_in l.words.items k ≡ (is_between l.start l.place k || is_set_in l.initial.words.items k);
}

abbrev pub decreases-loop-place : goal.decreases-loop-place
decreases-loop-place l = l.end - l.place
