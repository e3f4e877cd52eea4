use Rattle.std.proofs.Common.{◌≡◌, ◌≤◌, take}
use Rattle.hash_rows.specs.Sketches.{zero_registers}
use Rattle.loglog_regs.proofs.registers.count_zeros.Given as goal

abbrev pub invariant-loop-rank : goal.invariant-loop-rank
invariant-loop-rank l = (l.zeros ≡ zero_registers (take l.rank-index l.cells)) × (l.zeros ≤ l.rank-index)
