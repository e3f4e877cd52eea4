-- The header of a capture: the libpcap savefile format, version 2.4 (the manual page pcap-savefile of libpcap).
use Rattle.std.specs.Prelude.{◌≡◌, ◌<◌, ◌≤◌, ℕ, ◌%◌, ◌==◌, ◌&&◌, not, List, length, take, drop, Option, Some, None, nat_lt, if◌then◌else◌}
use Rattle.byteorder.specs.Endian.{little_number, big_number}
use Rattle.pcap_read.specs.declared.bad.Bad.{Bad}
use Rattle.pcap_read.specs.declared.bad.Bad.TheVariants.{UnknownMagic, PcapNg, BadVersion, NotEthernet}
use Rattle.pcap_read.specs.declared.bad.Order.{Order}
use Rattle.pcap_read.specs.declared.bad.Order.TheVariants.{Little, Big}

-- how many bytes the header has
abbrev pub header_len : ℕ
header_len = 24

-- the number in n bytes at the place
unfoldable pub number_at : Order → ℕ → List ℕ → ℕ → ℕ
number_at Little n bytes at = little_number n (drop at bytes)
number_at Big n bytes at = big_number n (drop at bytes)

-- the order of all other numbers, by the first four bytes
unfoldable pub order_of : ℕ → Option Order
order_of magic =
    if magic == 0xd4c3b2a1 then Some Little
    else if magic == 0xa1b2c3d4 then Some Big
    else if magic == 0x4d3cb2a1 then Some Little
    else if magic == 0xa1b23c4d then Some Big
    else None

-- the link type is the low half of its field
abbrev pub link_of : Order → List ℕ → ℕ
link_of order header = number_at order 4 header 20 % 65536

-- what the first bytes of a header are refused for, once their magic is looked up
unfoldable pub refusal_in : Option Order → List ℕ → Option Bad
refusal_in None bytes = Some (if big_number 4 bytes == 0x0a0d0d0a then PcapNg else UnknownMagic (big_number 4 bytes))
refusal_in (Some order) bytes =
    if nat_lt (length bytes) 8 then None
    else if not (number_at order 2 bytes 4 == 2 && number_at order 2 bytes 6 == 4)
    then Some (BadVersion (number_at order 2 bytes 4) (number_at order 2 bytes 6))
    else if nat_lt (length bytes) header_len then None
    else if not (link_of order bytes == 1) then Some (NotEthernet (link_of order bytes))
    else None

-- what the first bytes of a header are refused for
unfoldable pub header_refusal : List ℕ → Option Bad
header_refusal bytes = if nat_lt (length bytes) 4 then None else refusal_in (order_of (big_number 4 bytes)) bytes

-- a header that isn't refused, of this order, stands at the front
pub record HasHeader (order : Order) (bytes : List ℕ) : Type 0 where
  pub long : header_len ≤ length bytes
  pub fine : header_refusal (take header_len bytes) ≡ None
  pub order_is : order_of (big_number 4 (take header_len bytes)) ≡ Some order

-- part of a header, and not refused
pub record IsPartOfHeader (bytes : List ℕ) : Type 0 where
  pub few : length bytes < header_len
  pub fine : header_refusal bytes ≡ None
