use Rattle.std.proofs.Common.{◌<◌, ◌^◌}
use Rattle.hash_rows.specs.declared.shape.Packet.{Packet}
use Rattle.push_history.specs.Share.{zero_key}
use Rattle.shares.proofs.Owning.{below_more}
use Rattle.shares.proofs.owners.amounts_fit.Goals as goal

pub loop-packet-preserved : goal.loop-packet-preserved
loop-packet-preserved c =
    below_more (λ (p : Packet). p.amount < 2 ^ 32) c.args.packets.now c.loop-packet.packet-index (record { key = zero_key; amount = 0 }) c.loop-packet-test.true c.loop-packet.invariant c.amount_fits.ensures
