use Rattle.std.proofs.Common.{◌≡◌, ◌≤◌, take}
use Rattle.prefix_report.specs.Reports.{other_count}
use Rattle.prefix_report.proofs.amounts.other_count.Given as goal

abbrev pub invariant-loop-packet : goal.invariant-loop-packet
invariant-loop-packet l = (l.count ≡ other_count (take l.packet-index l.packets)) × (l.count ≤ l.packet-index)
