use Rattle.std.proofs.Common.{◌≡◌, ◌≤◌, ◌*◌, take}
use Rattle.prefix_report.specs.Reports.{ipv4_total}
use Rattle.prefix_report.proofs.amounts.ipv4_total.Given as goal

abbrev pub invariant-loop-packet : goal.invariant-loop-packet
invariant-loop-packet l = (l.total ≡ ipv4_total (take l.packet-index l.packets)) × (l.total ≤ l.packet-index * 4294967296)
