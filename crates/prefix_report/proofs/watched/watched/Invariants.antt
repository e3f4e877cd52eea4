use Rattle.std.proofs.Common.{◌≡◌, List, length, map, take}
use Rattle.hash_rows.specs.declared.shape.Packet.{Packet}
use Rattle.hash_rows.specs.declared.shape.Shape.{Shape}
use Rattle.prefix_stack.specs.Levels.{level_tables}
use Rattle.prefix_report.specs.Reports.{AreNetworks, estimated}
use Rattle.prefix_report.proofs.watched.watched.Given as goal

abbrev pub invariant-loop-prefix : goal.invariant-loop-prefix
invariant-loop-prefix l = record {
  networks : AreNetworks l.hits.items;
  items : (shape : Shape) (packets : List Packet) → l.tables ≡ level_tables shape packets → l.hits.items ≡ map (estimated shape packets) (take l.prefix-index l.watch);
  many : length l.hits.items ≡ l.prefix-index;
  room : l.hits.room ≡ length l.watch;
}
