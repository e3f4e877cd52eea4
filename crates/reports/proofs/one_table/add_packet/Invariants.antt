use Rattle.std.proofs.Common.{◌≡◌, List}
use Rattle.hash_rows.specs.declared.shape.Packet.{Packet}
use Rattle.hash_rows.specs.Sequential.{sequential_table}
use Rattle.reports.proofs.Adding.{reached_table}
use Rattle.reports.proofs.one_table.add_packet.Given as goal

abbrev pub invariant-loop-row : goal.invariant-loop-row
invariant-loop-row g l = (l.table.shape ≡ l.shape) × ((packets : List Packet) → l.initial.table ≡ sequential_table g.K.Kind.rules l.shape packets
    → l.table ≡ reached_table g.K.Kind.rules l.shape packets l.packet l.row)
