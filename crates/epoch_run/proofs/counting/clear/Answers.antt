use Rattle.std.proofs.Common.{◌≡◌, ◌<◌, ◌∙◌, ℕ, pos, sym, ap, subst, arith, length, get_or}
use Rattle.hash_rows.specs.declared.shape.Packet.{Packet}
use Rattle.hash_rows.specs.declared.shape.Shape.{Shape}
use Rattle.hash_rows.specs.Shapes.{cell_of, size_of}
use Rattle.hash_rows.specs.Tables.{value_at}
use Rattle.epoch_run.proofs.Clearing.{all_cleared, nothing, packets_cleared, same_there, sketch_len}
use Rattle.epoch_run.proofs.counting.clear.Goals as goal

pub clear_packet-requires : goal.clear_packet-requires
clear_packet-requires c =
    let before = c.loop-packet.invariant in
    record { cells = before.cells ∙ sketch_len c.args.table.now.shape c.args.packets.now c.args.table.now c.requires ∙ sym (ap size_of before.shape) }

pub loop-packet-preserved : goal.loop-packet-preserved
loop-packet-preserved c =
    let before = c.loop-packet.invariant in
    let step = c.clear_packet.ensures in
    let shape : Shape = c.args.table.now.shape in
    let packet : Packet = get_or c.args.packets.now c.loop-packet.packet-index nothing in
    record {
      shape = step.shape ∙ before.shape;
      cells = step.cells ∙ before.cells;
      cleared = packets_cleared shape c.args.packets.now c.loop-packet.packet-index c.loop-packet.table.cells c.clear_packet.new.table.cells packet
          (λ d. same_there c.args.packets.now c.loop-packet.packet-index d nothing c.loop-packet-test.true) before.cleared step.kept
          (subst (λ (s : Shape). (row : ℕ) → row < s.rows → value_at c.clear_packet.new.table.cells (cell_of s packet.key row) ≡ pos 0) before.shape step.cleared);
      kept = λ cell is. step.kept cell (before.kept cell is);
    }

pub returns : goal.returns
returns c =
    let before = c.loop-packet.invariant in
    let all : length c.args.packets.now ≡ c.loop-packet.packet-index = omega (arith, c.loop-packet-test.false, c.loop-packet.auto.packet-index-end) in
    all_cleared c.args.packets.now c.args.table.now c.loop-packet.table c.requires before.shape before.cells
    (λ k d row lt. before.cleared k d row (omega (arith, lt, all))) before.kept
