-- What a reader's fields stand for.
use Rattle.std.specs.Prelude.{◌≡◌, ◌<◌, ◌≤◌, ℕ, ◌+◌, ◌-◌, List, [], take, drop, min, Option, Some, None, vec_len, vec_capacity, MatchOption}
use Rattle.pcap_read.specs.Records.{Framed, most_captured}
use Rattle.pcapng_read.specs.Blocks.{judged, keep_of}
use Rattle.pcapng_read.specs.Plans.{HasRoomForBlock, IsSoundPlan}
use Rattle.pcapng_read.specs.View.{NgReaderView, refused_at}
use Rattle.pcapng_read.specs.declared.block.Body.{Body}
use Rattle.pcapng_read.specs.declared.block.Body.TheVariants.{Section, Interface, Packet, Passed}
use Rattle.pcapng_read.specs.declared.block.Judged.{Judged}
use Rattle.pcapng_read.specs.declared.block.Judged.TheVariants.{Waits, Refused, Known}
use Rattle.pcapng_read.specs.declared.reader.Data.{Data}
use Rattle.pcapng_read.specs.declared.reader.NgReader.TheInside.{Inside}

-- where the captured bytes of a packet stand in its block
abbrev pub data_of : Body → Option Data
data_of (Packet at captured original) = Some (record { at = at; captured = captured; original = original })
data_of Section = None
data_of (Interface snapshot) = None
data_of Passed = None

-- the packet whose captured bytes stand there among the held ones
abbrev pub lent_in : List ℕ → Option Data → Option Framed
lent_in held None = None
lent_in held (Some d) = Some (record { original = d.original; bytes = take d.captured (drop d.at held) })

-- while a packet can be lent, what is held is its block, of which nothing is left to read
abbrev pub held_in : List ℕ → Option Data → List ℕ
held_in held None = held
held_in held (Some d) = []

-- where the reader stands
abbrev pub view_of : Inside → NgReaderView
view_of a = record {
  limit = a.limit;
  walk = a.walk;
  judged = a.judged;
  seen = a.seen;
  held = held_in a.held.items a.packet;
  lent = lent_in a.held.items a.packet;
}

-- how much of the block has come and is held
abbrev pub IsInBlock : Inside → Judged → Type 0
IsInBlock a (Waits n) = (vec_len a.held ≡ a.seen) × (a.seen < n) × (n ≤ 28) × (judged a.limit a.walk a.held.items ≡ Waits n)
IsInBlock a (Refused bad) = view_of a ≡ refused_at a.limit bad
IsInBlock a (Known plan) =
    IsSoundPlan a.limit a.walk plan × (a.seen < plan.total) × (vec_len a.held ≡ min (keep_of plan) a.seen + (a.seen - (plan.total - 4)))

-- a packet that can be lent is held, and the next block isn't begun
pub record IsLending (a : Inside) (d : Data) : Type 0 where
  pub inside : d.at + d.captured ≤ vec_len a.held
  pub next : a.judged ≡ Waits 8
  pub none : a.seen ≡ 0
  pub ready : judged a.limit a.walk [] ≡ Waits 8

-- there is room for the longest packet, and the counts are below their limits
pub record IsSound (a : Inside) : Type 0 where
  pub room : 32 + most_captured ≤ vec_capacity a.held
  pub counted : HasRoomForBlock a.walk
  pub packets : a.walk.packets ≤ a.limit
  pub others : a.walk.others ≤ a.limit
  pub within : MatchOption a.packet (IsInBlock a a.judged) (IsLending a)
