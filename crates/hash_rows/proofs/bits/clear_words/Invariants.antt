use Rattle.std.proofs.Common.{◌≡◌, length, take, replicate}
use Rattle.hash_rows.proofs.bits.clear_words.Given as goal

abbrev pub invariant-loop-place : goal.invariant-loop-place
invariant-loop-place l = record {
  cleared : take l.place l.words.items ≡ replicate l.place 0;
  len : length l.words.items ≡ length l.initial.words.items;
  room : l.words.room ≡ l.initial.words.room;
}
