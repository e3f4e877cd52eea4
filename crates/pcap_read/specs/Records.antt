-- The records of a capture: the libpcap savefile format, version 2.4 (the manual page pcap-savefile of libpcap).
use Rattle.std.specs.Prelude.{◌≡◌, ◌<◌, ◌≤◌, ◌⊎◌, ℕ, ◌+◌, ◌==◌, List, ◌++◌, length, Option, Some, None, nat_lt, if◌then◌else◌}
use Rattle.pcap_read.specs.Header.{number_at}
use Rattle.pcap_read.specs.declared.bad.Bad.{Bad}
use Rattle.pcap_read.specs.declared.bad.Bad.TheVariants.{TooLong, TooMany}
use Rattle.pcap_read.specs.declared.bad.Order.{Order}

-- how many bytes a record's head has
abbrev pub head_len : ℕ
head_len = 16

-- the most captured bytes of a record
abbrev pub most_captured : ℕ
most_captured = 262144

-- the head, and then the captured bytes
pub record Record : Type 0 where
  pub head : List ℕ
  pub bytes : List ℕ

-- the record's bytes, its head first
abbrev pub text : Record → List ℕ
text r = r.head ++ r.bytes

-- how many captured bytes stand behind the head at the front of these bytes, and how many the packet had
abbrev pub captured : Order → List ℕ → ℕ
captured order bytes = number_at order 4 bytes 8

-- the length that the packet had on the wire
abbrev pub original : Order → List ℕ → ℕ
original order bytes = number_at order 4 bytes 12

-- a head, and as many bytes as it tells of, which aren't too many
pub record IsRecord (order : Order) (r : Record) : Type 0 where
  pub head : length r.head ≡ head_len
  pub bytes : length r.bytes ≡ captured order r.head
  pub small : captured order r.head ≤ most_captured

-- how many bytes a packet had, and those of them that were captured
pub record Framed : Type 0 where
  pub original : ℕ
  pub bytes : List ℕ

-- what is lent of a record
abbrev pub frame_of : Order → Record → Framed
frame_of order r = record { original = original order r.head; bytes = r.bytes }

-- what the head of the next record is refused for, behind as many records and bytes
unfoldable pub record_refusal : Order → ℕ → ℕ → ℕ → List ℕ → Option Bad
record_refusal order limit count offset bytes =
    if count == limit then Some TooMany
    else if nat_lt most_captured (captured order bytes) then Some (TooLong offset (captured order bytes))
    else None

-- less than the next record, and not refused
abbrev pub IsRest : Order → ℕ → ℕ → List ℕ → Type 0
IsRest order limit count rest =
    (length rest < head_len)
    ⊎ ((head_len ≤ length rest) × (count < limit) × (captured order rest ≤ most_captured) × (length rest < head_len + captured order rest))
