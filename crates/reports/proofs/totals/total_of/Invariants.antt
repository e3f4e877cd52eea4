use Rattle.std.proofs.Common.{◌≡◌, ◌≤◌, ◌*◌, take}
use Rattle.hash_rows.specs.Amounts.{total_amount}
use Rattle.reports.proofs.totals.total_of.Given as goal

abbrev pub invariant-loop-packet : goal.invariant-loop-packet
invariant-loop-packet l = (l.total ≡ total_amount (take l.packet-index l.packets)) × (l.total ≤ l.packet-index * 4294967296)
