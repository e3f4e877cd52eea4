use Rattle.std.proofs.Common.{◌≡◌, ◌≤◌, ◌+◌, ◌*◌, ◌/◌, map, sum}
use Rattle.std.specs.List.{range_with_len}
use Rattle.loglog_regs.proofs.registers.count_linear.Given as goal

abbrev pub invariant-loop-step : goal.invariant-loop-step
invariant-loop-step l =
    (l.sum ≡ sum (map (λ i. l.registers * 65536 / i) (range_with_len (l.zeros + 1) l.step))) × (l.sum ≤ l.step * 4294967296)
