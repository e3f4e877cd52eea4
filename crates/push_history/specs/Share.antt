-- The packets of a worker.
use Rattle.std.specs.Prelude.{ℕ, ◌%◌, ◌==◌, List, length, filter, slice_index_or}
use Rattle.std.specs.List.{range_with_len}
use Rattle.packet_key.specs.declared.key.FlowKey.{FlowKey}
use Rattle.packet_key.specs.declared.key.FlowKey.TheVariants.{V4}
use Rattle.hash_rows.specs.declared.options.Share.{Share}
use Rattle.hash_rows.specs.declared.options.Share.TheVariants.{Turn, Key}
use Rattle.hash_rows.specs.declared.shape.Packet.{Packet}
use Rattle.hash_rows.specs.Hash.{share_of_key}

-- the key of zeros
abbrev pub zero_key : FlowKey
zero_key = V4 0 0 0 0 0

-- the packet at a position
abbrev pub packet_at : List Packet → ℕ → Packet
packet_at packets i = slice_index_or packets i (record { key = zero_key; amount = 0 })

-- the worker of the packet at position i
abbrev pub worker_of : Share → ℕ → List Packet → ℕ → ℕ
worker_of Turn workers packets i = i % workers
worker_of Key workers packets i = share_of_key (packet_at packets i).key workers

-- the rising list of the positions of the worker's packets
unfoldable pub share_of_worker : Share → ℕ → List Packet → ℕ → List ℕ
share_of_worker sharing workers packets w = filter (λ i. worker_of sharing workers packets i == w) (range_with_len 0 (length packets))
