use Rattle.std.proofs.Common.{◌≡◌, ◌<◌, ℕ, pos, length}
use Rattle.hash_rows.specs.Shapes.{cell_of}
use Rattle.hash_rows.specs.Tables.{value_at}
use Rattle.epoch_run.proofs.counting.clear_packet.Given as goal

abbrev pub invariant-loop-row : goal.invariant-loop-row
invariant-loop-row l = record {
  shape : l.table.shape ≡ l.shape;
  cells : length l.table.cells ≡ length l.initial.table.cells;
  cleared : (row : ℕ) → row < l.row → value_at l.table.cells (cell_of l.shape l.packet.key row) ≡ pos 0;
  kept : (cell : ℕ) → value_at l.initial.table.cells cell ≡ pos 0 → value_at l.table.cells cell ≡ pos 0;
}
