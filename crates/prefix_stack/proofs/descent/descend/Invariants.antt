use Rattle.std.proofs.Common.{◌≡◌, ◌*◌, length}
use Rattle.prefix_stack.proofs.Descending.{Descends}
use Rattle.prefix_stack.proofs.descent.descend.Given as goal

abbrev pub invariant-loop-place : goal.invariant-loop-place
invariant-loop-place l = record {
  so_far : Descends l.tables l.limit l.least l.place l.parents.items l.found.hits.items l.found.more;
  room : l.found.hits.room ≡ 4 * l.limit;
  four : length l.found.more ≡ 4;
}
