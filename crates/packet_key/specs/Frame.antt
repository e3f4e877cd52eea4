-- The flow key of an Ethernet frame, by its places: Ethernet II, VLAN tags (IEEE 802.1Q and 802.1ad),
-- IPv4 (RFC 791, section 3.1), the fixed header of IPv6 (RFC 8200, section 3), and the ports of TCP (RFC 9293)
-- and UDP (RFC 768).
use Rattle.std.specs.Prelude.{ℕ, zero, suc, ◌+◌, ◌*◌, ◌/◌, ◌%◌, ◌==◌, Bool, ◌&&◌, ◌||◌, not, List, length, Result, Ok, Err, nat_lt, nat_le, if◌then◌else◌, slice_index, slice_range}
use Rattle.packet_key.specs.declared.key.FlowKey.{FlowKey}
use Rattle.packet_key.specs.declared.key.FlowKey.TheVariants.{V4, V6}
use Rattle.packet_key.specs.declared.key.Skip.{Skip}
use Rattle.packet_key.specs.declared.key.Skip.TheVariants.{ShortFrame, NotIp, BadIp, ManyTags}

-- the two bytes at the place, the most significant first
abbrev pub u16_of : List ℕ → ℕ → ℕ
u16_of frame at = 256 * slice_index frame at + slice_index frame (at + 1)

-- the four bytes at the place, the most significant first
abbrev pub u32_of : List ℕ → ℕ → ℕ
u32_of frame at = 65536 * u16_of frame at + u16_of frame (at + 2)

-- the 16 bytes at the place
abbrev pub address_at : List ℕ → ℕ → List ℕ
address_at frame at = slice_range frame at (at + 16)

-- the protocol is one whose first four bytes are two ports
abbrev pub has_ports : ℕ → Bool
has_ports proto = proto == 6 || proto == 17

-- the port at the place, where ports are shown
abbrev pub port_at : Bool → List ℕ → ℕ → ℕ
port_at shown frame at = if shown then u16_of frame at else 0

-- the place behind the IPv4 header at p, whose length stands in 32-bit words in the low four bits of its first byte
unfoldable pub payload_place : List ℕ → ℕ → ℕ
payload_place frame p = p + 4 * (slice_index frame p % 16)

-- the IPv4 packet at p shows ports: TCP or UDP, in a first fragment, with both ports there
unfoldable pub shows_ports : List ℕ → ℕ → Bool
shows_ports frame p =
    has_ports (slice_index frame (p + 9))
    && (u16_of frame (p + 6) % 8192 == 0)
    && nat_le (payload_place frame p + 4) (length frame)

-- the key of the IPv4 packet at p
unfoldable pub key_at : List ℕ → ℕ → FlowKey
key_at frame p = V4
    (u32_of frame (p + 12))
    (u32_of frame (p + 16))
    (port_at (shows_ports frame p) frame (payload_place frame p))
    (port_at (shows_ports frame p) frame (payload_place frame p + 2))
    (slice_index frame (p + 9))

-- what stands at p, where IPv4 is announced
unfoldable pub packet_at : List ℕ → ℕ → Result FlowKey Skip
packet_at frame p =
    if nat_lt (length frame) (p + 20) then Err ShortFrame
    else if not (slice_index frame p / 16 == 4) || nat_lt (slice_index frame p % 16) 5 then Err BadIp
    else if nat_lt (length frame) (payload_place frame p) then Err ShortFrame
    else Ok (key_at frame p)

-- the IPv6 packet at p shows ports: TCP or UDP directly behind the fixed header, with both ports there
unfoldable pub shows_ports6 : List ℕ → ℕ → Bool
shows_ports6 frame p = has_ports (slice_index frame (p + 6)) && nat_le (p + 44) (length frame)

-- the key of the IPv6 packet at p
unfoldable pub key6_at : List ℕ → ℕ → FlowKey
key6_at frame p = V6
    (address_at frame (p + 8))
    (address_at frame (p + 24))
    (port_at (shows_ports6 frame p) frame (p + 40))
    (port_at (shows_ports6 frame p) frame (p + 42))
    (slice_index frame (p + 6))

-- what stands at p, where IPv6 is announced
unfoldable pub packet6_at : List ℕ → ℕ → Result FlowKey Skip
packet6_at frame p =
    if nat_lt (length frame) (p + 40) then Err ShortFrame
    else if not (slice_index frame p / 16 == 6) then Err BadIp
    else Ok (key6_at frame p)

-- what stands at p behind this EtherType, which is no tag's
unfoldable pub announced : ℕ → List ℕ → ℕ → Result FlowKey Skip
announced ethertype frame p =
    if ethertype == 0x0800 then packet_at frame p
    else if ethertype == 0x86DD then packet6_at frame p
    else Err (NotIp ethertype)

-- the EtherType is that of a VLAN tag
abbrev pub is_tag : ℕ → Bool
is_tag ethertype = ethertype == 0x8100 || ethertype == 0x88A8

-- the key, where an EtherType stands at p and at most this many tags are left
unfoldable pub key_behind : ℕ → List ℕ → ℕ → Result FlowKey Skip
key_behind zero frame p =
    if is_tag (u16_of frame p) then Err ManyTags else announced (u16_of frame p) frame (p + 2)
key_behind (suc tags) frame p =
    if not (is_tag (u16_of frame p)) then announced (u16_of frame p) frame (p + 2)
    else if nat_lt (length frame) (p + 6) then Err ShortFrame
    else key_behind tags frame (p + 4)

-- the key of a frame, or why it has none: the EtherType stands at 12, behind both addresses
unfoldable pub key_of : List ℕ → Result FlowKey Skip
key_of frame = if nat_lt (length frame) 14 then Err ShortFrame else key_behind 2 frame 12
