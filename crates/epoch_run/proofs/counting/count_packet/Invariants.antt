use Rattle.std.proofs.Common.{◌≡◌, List, length}
use Rattle.hash_rows.specs.declared.options.Sketch.TheVariants.{CountSketch}
use Rattle.hash_rows.specs.declared.shape.Packet.{Packet}
use Rattle.hash_rows.specs.Rules.{rules_of}
use Rattle.hash_rows.specs.Sequential.{sequential_table}
use Rattle.hash_rows.specs.Shapes.{size_of}
use Rattle.reports.proofs.Adding.{reached_table}
use Rattle.epoch_run.specs.Places.{HaveUsed}
use Rattle.epoch_run.proofs.counting.count_packet.Given as goal

abbrev pub invariant-loop-row : goal.invariant-loop-row
invariant-loop-row l = record {
  shape : l.table.shape ≡ l.shape;
  cells : length l.table.cells ≡ size_of l.table.shape;
  used : HaveUsed l.table l.used.items;
  table : (packets : List Packet) → l.initial.table ≡ sequential_table (rules_of CountSketch) l.shape packets
      → l.table ≡ reached_table (rules_of CountSketch) l.shape packets l.packet l.row;
}
