-- The packets of a capture: the records whose frame has a key, in order. The others are counted by why they have none.
use Rattle.std.specs.Prelude.{ℕ, List, Bool, true, false, Option, Some, None, Result, Ok, Err, count_by}
use Rattle.std.specs.List.{filter_map}
use Rattle.packet_key.specs.declared.key.FlowKey.{FlowKey}
use Rattle.packet_key.specs.declared.key.Skip.{Skip}
use Rattle.packet_key.specs.declared.key.Skip.TheVariants.{ShortFrame, NotIp, BadIp, ManyTags}
use Rattle.packet_key.specs.Frame.{key_of}
use Rattle.hash_rows.specs.declared.options.Amount.{Amount}
use Rattle.hash_rows.specs.declared.options.Amount.TheVariants.{Packets, Bytes}
use Rattle.hash_rows.specs.declared.shape.Packet.{Packet}
use Rattle.hash_rows.specs.declared.shape.Tallies.{Tallies}
use Rattle.pcap_read.specs.Records.{Framed}

-- what a packet adds: 1, or the bytes that it had
abbrev pub amount_of : Amount → ℕ → ℕ
amount_of Packets original = 1
amount_of Bytes original = original

-- the packet of a frame with this key, if it has one
abbrev pub packet_by : Amount → ℕ → Result FlowKey Skip → Option Packet
packet_by amount original (Ok key) = Some (record { key = key; amount = amount_of amount original })
packet_by amount original (Err why) = None

-- what a frame counts for; nothing, where it has no key
abbrev pub packet_in : Amount → Framed → Option Packet
packet_in amount frame = packet_by amount frame.original (key_of frame.bytes)

-- what some frames count for, in their order
unfoldable pub packets_of : Amount → List Framed → List Packet
packets_of amount frames = filter_map (packet_in amount) frames

-- whether a frame ends before its key does
abbrev pub is_short : Result FlowKey Skip → Bool
is_short (Err ShortFrame) = true
is_short _ = false

-- whether a frame holds another protocol than IP
abbrev pub is_not_ip : Result FlowKey Skip → Bool
is_not_ip (Err (NotIp ethertype)) = true
is_not_ip _ = false

-- whether a frame's IP header is wrong
abbrev pub is_bad_ip : Result FlowKey Skip → Bool
is_bad_ip (Err BadIp) = true
is_bad_ip _ = false

-- whether a frame has more tags than are read
abbrev pub is_tagged : Result FlowKey Skip → Bool
is_tagged (Err ManyTags) = true
is_tagged _ = false

-- how many frames have no key, by why
unfoldable pub tallies_of : List Framed → Tallies
tallies_of frames = record {
  short = count_by (λ f. is_short (key_of f.bytes)) frames;
  not_ip = count_by (λ f. is_not_ip (key_of f.bytes)) frames;
  bad_ip = count_by (λ f. is_bad_ip (key_of f.bytes)) frames;
  tags = count_by (λ f. is_tagged (key_of f.bytes)) frames;
}
