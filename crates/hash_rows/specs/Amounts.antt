-- How much packets amount to.
use Rattle.std.specs.Prelude.{ℕ, List, sum_by, if◌then◌else◌}
use Rattle.packet_key.specs.declared.key.FlowKey.{FlowKey}
use Rattle.hash_rows.specs.declared.shape.Packet.{Packet}
use Rattle.packet_key.specs.Keys.{same_key}

-- all packets together
unfoldable pub total_amount : List Packet → ℕ
total_amount packets = sum_by (λ packet. packet.amount) packets

-- the packets of one key
unfoldable pub key_amount : List Packet → FlowKey → ℕ
key_amount packets key = sum_by (λ packet. if same_key packet.key key then packet.amount else 0) packets
