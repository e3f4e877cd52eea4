use Rattle.std.proofs.Common.{◌≡◌, ◌<◌, ℕ, pos, length, get_or}
use Rattle.hash_rows.specs.declared.shape.Packet.{Packet}
use Rattle.hash_rows.specs.Shapes.{cell_of}
use Rattle.hash_rows.specs.Tables.{value_at}
use Rattle.epoch_run.proofs.counting.clear.Given as goal

abbrev pub invariant-loop-packet : goal.invariant-loop-packet
invariant-loop-packet l = record {
  shape : l.table.shape ≡ l.initial.table.shape;
  cells : length l.table.cells ≡ length l.initial.table.cells;
  cleared : (k : ℕ) (d : Packet) (row : ℕ) → k < l.packet-index → row < l.initial.table.shape.rows → value_at l.table.cells (cell_of l.initial.table.shape (get_or l.packets k d).key row) ≡ pos 0;
  kept : (cell : ℕ) → value_at l.initial.table.cells cell ≡ pos 0 → value_at l.table.cells cell ≡ pos 0;
}
