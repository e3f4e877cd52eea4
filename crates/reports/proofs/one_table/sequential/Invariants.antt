use Rattle.std.proofs.Common.{◌≡◌, take}
use Rattle.hash_rows.specs.Sequential.{sequential_table}
use Rattle.reports.proofs.one_table.sequential.Given as goal

abbrev pub invariant-loop-packet : goal.invariant-loop-packet
invariant-loop-packet g l = l.table ≡ sequential_table g.K.Kind.rules l.fn.shape (take l.packet-index l.packets)
