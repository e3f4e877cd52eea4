use Rattle.std.proofs.Common.{◌≡◌, ◌++◌, take}
use Rattle.prefix_stack.proofs.descent.add_hits.Given as goal

abbrev pub invariant-loop-hit : goal.invariant-loop-hit
invariant-loop-hit l = record {
  items : l.hits.items ≡ l.initial.hits.items ++ take l.hit-index l.more;
  room : l.hits.room ≡ l.initial.hits.room;
}
