use Rattle.std.proofs.Common.{ap}
use Rattle.hash_rows.specs.declared.shape.Shape.{Shape}
use Rattle.epoch_run.proofs.Clearing.{empty_zero, sketch_len}
use Rattle.epoch_run.proofs.Using.{none_used}
use Rattle.epoch_run.proofs.counting.fill.Goals as goal

pub loop-packet-init : goal.loop-packet-init
loop-packet-init c = record {
  table = c.requires.empty;
  used = none_used c.args.table.now _ c.in_ok-used.used.items (empty_zero c.args.table.now.shape c.args.table.now c.requires.empty) (ap (λ (s : Shape). s.rows) c.shape-rows.ensures.shape) c.in_ok-used.ensures.items;
}

pub count_packet-requires-clause-cells : goal.count_packet-requires-clause-cells
count_packet-requires-clause-cells c = sketch_len c.args.table.now.shape _ c.loop-packet.table c.loop-packet.invariant.table
