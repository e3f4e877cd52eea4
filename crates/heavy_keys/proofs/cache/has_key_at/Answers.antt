use Rattle.std.proofs.Common.{◌∙◌, sym}
use Rattle.packet_key.specs.declared.key.FlowKey.TheVariants.{V4}
use Rattle.heavy_keys.proofs.KeyOrder.{has_key}
use Rattle.heavy_keys.proofs.cache.has_key_at.Goals as goal

pub returns-then-place-packets : goal.returns-then-place-packets
returns-then-place-packets c = λ same.
    has_key c.args.packets.now c.args.place (record { key = V4 0 0 0 0 0; amount = 0 }) c.args.key.now c.if-place-packets.true (sym c.same_key.ensures.test ∙ same)
