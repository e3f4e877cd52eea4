use Rattle.std.proofs.Common.{◌≡◌, ◌≤◌, length, map, take}
use Rattle.prefixes.specs.Networks.{prefix_key}
use Rattle.prefix_stack.specs.Runs.{watched_at}
use Rattle.prefix_stack.proofs.run.keys_at.Given as goal

abbrev pub invariant-loop-prefix : goal.invariant-loop-prefix
invariant-loop-prefix l = record {
  items : l.keys.items ≡ map prefix_key (watched_at l.bits (take l.prefix-index l.watch));
  few : length l.keys.items ≤ l.prefix-index;
  room : l.keys.room ≡ 16;
}
