-- The blocks of a pcapng file (draft-ietf-opsawg-pcapng), and what their first bytes tell. What a type 3 block's captured length is,
-- the limits, and what is refused, are this product's own.
use Rattle.std.specs.Prelude.{ℕ, ◌+◌, ◌-◌, ◌*◌, ◌/◌, ◌%◌, ◌==◌, ◌&&◌, not, min, Bool, List, length, Option, Some, None, nat_lt, nat_le, if◌then◌else◌}
use Rattle.pcap_read.specs.Header.{number_at}
use Rattle.pcap_read.specs.Records.{most_captured}
use Rattle.pcap_read.specs.declared.bad.Order.{Order}
use Rattle.pcap_read.specs.declared.bad.Order.TheVariants.{Little, Big}
use Rattle.pcapng_read.specs.declared.bad.NgBad.{NgBad}
use Rattle.pcapng_read.specs.declared.bad.NgBad.TheVariants.{BadOrder, BadVersion, BadBlock, NotEthernet, NoInterface, TooLong, TooMany}
use Rattle.pcapng_read.specs.declared.block.Walk.{Walk}
use Rattle.pcapng_read.specs.declared.block.Plan.{Plan}
use Rattle.pcapng_read.specs.declared.block.Body.{Body}
use Rattle.pcapng_read.specs.declared.block.Body.TheVariants.{Section, Interface, Packet, Passed}
use Rattle.pcapng_read.specs.declared.block.Judged.{Judged}
use Rattle.pcapng_read.specs.declared.block.Judged.TheVariants.{Waits, Refused, Known}

-- nothing stands in front of the first block
abbrev pub start : Walk
start = record { order = None; interfaces = 0; snapshot = 0; packets = 0; others = 0; offset = 0 }

-- the type of a section's header, the same in both orders
abbrev pub section_type : ℕ
section_type = 0x0a0d0d0a

-- the order of a section's numbers, by the magic number behind its total length
unfoldable pub section_order : ℕ → Option Order
section_order magic = if magic == 0x4d3c2b1a then Some Little else if magic == 0x1a2b3c4d then Some Big else None

-- a length with the bytes that fill it up to a multiple of four
abbrev pub padded : ℕ → ℕ
padded n = (n + 3) / 4 * 4

-- whether a block can have this total length
abbrev pub is_length : ℕ → ℕ → Bool
is_length least total = nat_le least total && (total % 4 == 0)

-- a block's offset in 64 bits, as refusals tell it
abbrev pub told_offset : Walk → ℕ
told_offset w = w.offset % 18446744073709551616

-- a judgement that takes the block's first n bytes
abbrev pub need : ℕ → List ℕ → Judged → Judged
need n x next = if nat_lt (length x) n then Waits n else next

-- what is known of a block from its front
abbrev pub plan_of : Order → ℕ → Body → Plan
plan_of order total body = record { order = order; total = total; body = body }

-- a section's header, once its version stands
unfoldable pub version_judged : Order → ℕ → ℕ → ℕ → Judged
version_judged order total major minor =
    if not (major == 1) then Refused (BadVersion major minor) else Known (plan_of order total Section)

-- a section's header, once its order is looked up
unfoldable pub section_in : Walk → List ℕ → Option Order → Judged
section_in w x None = Refused (BadOrder (number_at Big 4 x 8))
section_in w x (Some order) =
    if not (is_length 28 (number_at order 4 x 4)) then Refused (BadBlock (told_offset w) (number_at order 4 x 4))
    else need 16 x (version_judged order (number_at order 4 x 4) (number_at order 2 x 12) (number_at order 2 x 14))

-- a section's header, of which eight bytes stand
unfoldable pub section_judged : ℕ → Walk → List ℕ → Judged
section_judged limit w x =
    if w.others == limit then Refused TooMany
    else need 12 x (section_in w x (section_order (number_at Big 4 x 8)))

-- an interface, once its link type stands
unfoldable pub link_judged : Order → ℕ → ℕ → ℕ → Judged
link_judged order total link snapshot =
    if not (link == 1) then Refused (NotEthernet link) else Known (plan_of order total (Interface snapshot))

-- an interface, of which eight bytes stand
unfoldable pub interface_judged : ℕ → Walk → Order → List ℕ → Judged
interface_judged limit w order x =
    if w.others == limit then Refused TooMany
    else if not (is_length 20 (number_at order 4 x 4)) then Refused (BadBlock (told_offset w) (number_at order 4 x 4))
    else need 16 x (link_judged order (number_at order 4 x 4) (number_at order 2 x 8) (number_at order 4 x 12))

-- a packet with so many captured bytes at the place
unfoldable pub packet_judged : Walk → Order → ℕ → ℕ → ℕ → ℕ → Judged
packet_judged w order total at captured original =
    if nat_lt most_captured captured then Refused (TooLong (told_offset w) captured)
    else if nat_lt total (at + 4 + padded captured) then Refused (BadBlock (told_offset w) total)
    else Known (plan_of order total (Packet at captured original))

-- an enhanced packet, once its interface's number stands
unfoldable pub numbered_judged : Walk → Order → ℕ → ℕ → ℕ → ℕ → Judged
numbered_judged w order total number captured original =
    if nat_le w.interfaces number then Refused (NoInterface (told_offset w) number)
    else packet_judged w order total 28 captured original

-- an enhanced packet, of which eight bytes stand
unfoldable pub enhanced_judged : ℕ → Walk → Order → List ℕ → Judged
enhanced_judged limit w order x =
    if w.packets == limit then Refused TooMany
    else if not (is_length 32 (number_at order 4 x 4)) then Refused (BadBlock (told_offset w) (number_at order 4 x 4))
    else need 28 x (numbered_judged w order (number_at order 4 x 4) (number_at order 4 x 8) (number_at order 4 x 20)
    (number_at order 4 x 24))

-- how many bytes a simple packet has, where the snapshot length 0 cuts nothing
abbrev pub simple_captured : ℕ → ℕ → ℕ
simple_captured snapshot original = if snapshot == 0 then original else min snapshot original

-- a simple packet, once its original length stands
unfoldable pub simple_in : Walk → Order → ℕ → ℕ → Judged
simple_in w order total original =
    if w.interfaces == 0 then Refused (NoInterface (told_offset w) 0)
    else packet_judged w order total 12 (simple_captured w.snapshot original) original

-- a simple packet, of which eight bytes stand
unfoldable pub simple_judged : ℕ → Walk → Order → List ℕ → Judged
simple_judged limit w order x =
    if w.packets == limit then Refused TooMany
    else if not (is_length 16 (number_at order 4 x 4)) then Refused (BadBlock (told_offset w) (number_at order 4 x 4))
    else need 12 x (simple_in w order (number_at order 4 x 4) (number_at order 4 x 8))

-- a block that is passed over
unfoldable pub passed_judged : ℕ → Walk → Order → ℕ → Judged
passed_judged limit w order total =
    if w.others == limit then Refused TooMany
    else if not (is_length 12 total) then Refused (BadBlock (told_offset w) total)
    else Known (plan_of order total Passed)

-- a block behind the first section's header, by its type
unfoldable pub block_judged : ℕ → Walk → Order → List ℕ → ℕ → Judged
block_judged limit w order x type =
    if type == section_type then section_judged limit w x
    else if type == 1 then interface_judged limit w order x
    else if type == 6 then enhanced_judged limit w order x
    else if type == 3 then simple_judged limit w order x
    else passed_judged limit w order (number_at order 4 x 4)

-- the first block is a section's header
unfoldable pub first_judged : ℕ → Walk → List ℕ → ℕ → Judged
first_judged limit w x type =
    if type == section_type then need 8 x (section_judged limit w x) else Refused (BadOrder type)

-- what the first bytes of a block tell of it
unfoldable pub judged_in : ℕ → Walk → List ℕ → Option Order → Judged
judged_in limit w x None = need 4 x (first_judged limit w x (number_at Big 4 x 0))
judged_in limit w x (Some order) = need 8 x (block_judged limit w order x (number_at order 4 x 0))

-- what the bytes held tell of the next block
abbrev pub judged : ℕ → Walk → List ℕ → Judged
judged limit w x = judged_in limit w x w.order

-- how many bytes at a block's front are read
abbrev pub keep_in : Body → ℕ
keep_in Section = 16
keep_in (Interface snapshot) = 16
keep_in (Packet at captured original) = at + captured
keep_in Passed = 8

-- how many bytes at the block's front are read
abbrev pub keep_of : Plan → ℕ
keep_of plan = keep_in plan.body

-- what stands behind a block: a section's header sets the order and drops the interfaces
abbrev pub behind_by : Walk → Order → ℕ → Body → Walk
behind_by w order total Section =
    record { order = Some order; interfaces = 0; snapshot = 0; packets = w.packets; others = w.others + 1; offset = w.offset + total }
behind_by w order total (Interface snapshot) = record {
  order = Some order;
  interfaces = w.interfaces + 1;
  snapshot = (if w.interfaces == 0 then snapshot else w.snapshot);
  packets = w.packets;
  others = w.others + 1;
  offset = w.offset + total;
}
behind_by w order total (Packet at captured original) = record {
  order = Some order;
  interfaces = w.interfaces;
  snapshot = w.snapshot;
  packets = w.packets + 1;
  others = w.others;
  offset = w.offset + total;
}
behind_by w order total Passed = record {
  order = Some order;
  interfaces = w.interfaces;
  snapshot = w.snapshot;
  packets = w.packets;
  others = w.others + 1;
  offset = w.offset + total;
}

-- what stands behind the block
abbrev pub walk_past : Walk → Plan → Walk
walk_past w plan = behind_by w plan.order plan.total plan.body

-- what a block is refused for, with all of its bytes
abbrev pub refusal_by : Walk → List ℕ → Judged → Option NgBad
refusal_by w x (Waits n) = None
refusal_by w x (Refused bad) = Some bad
refusal_by w x (Known plan) =
    if nat_lt (length x) plan.total then None
    else if number_at plan.order 4 x (plan.total - 4) == plan.total then None
    else Some (BadBlock (told_offset w) plan.total)

-- what the next block is refused for, with all of its bytes
abbrev pub block_refusal : ℕ → Walk → List ℕ → Option NgBad
block_refusal limit w x = refusal_by w x (judged limit w x)
