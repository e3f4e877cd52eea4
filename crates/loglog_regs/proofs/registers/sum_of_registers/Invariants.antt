use Rattle.std.proofs.Common.{◌≡◌, ◌≤◌, ◌*◌, take}
use Rattle.hash_rows.specs.Sketches.{register_sum}
use Rattle.loglog_regs.proofs.registers.sum_of_registers.Given as goal

abbrev pub invariant-loop-rank : goal.invariant-loop-rank
invariant-loop-rank l = (l.sum ≡ register_sum (take l.rank-index l.cells)) × (l.rank-index ≤ l.sum) × (l.sum ≤ l.rank-index * 4294967296)
