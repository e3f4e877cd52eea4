use Rattle.std.proofs.Common.{◌<◌, ◌^◌, ℕ, get_or}
use Rattle.hash_rows.specs.declared.shape.Packet.{Packet}
use Rattle.shares.proofs.owners.amounts_fit.Given as goal

abbrev pub invariant-loop-packet : goal.invariant-loop-packet
invariant-loop-packet l = (k : ℕ) (d : Packet) → k < l.packet-index → (get_or l.packets k d).amount < 2 ^ 32
