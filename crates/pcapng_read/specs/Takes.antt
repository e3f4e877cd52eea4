-- What a reader does with a piece.
use Rattle.std.specs.Prelude.{◌≡◌, ◌≤◌, ◌<◌, ◌↔◌, ℕ, ◌+◌, ◌*◌, true, false, IsTrue, IsSome, List, [], ◌∷◌, ◌++◌, length, take, Option, Some, None, Ok, Err, MatchResult, MatchBool, Result, if◌then◌else◌}
use Rattle.pcap_read.specs.Records.{Framed}
use Rattle.pcap_read.specs.declared.bad.Order.{Order}
use Rattle.pcapng_read.specs.Capture.{RefusesNext, NgOutcome, NgWhole, NgRefused}
use Rattle.pcapng_read.specs.View.{NgReaderView, Stands}
use Rattle.pcapng_read.specs.declared.bad.NgBad.{NgBad}
use Rattle.pcapng_read.specs.declared.bad.NgBad.TheVariants.{ShortSection}
use Rattle.pcapng_read.specs.declared.block.Judged.{Judged}
use Rattle.pcapng_read.specs.declared.block.Judged.TheVariants.{Waits, Refused, Known}
use Rattle.pcapng_read.specs.declared.reader.NgTaken.{NgTaken}

-- one more packet's block is whole, and the packet can be lent
pub record TakesPacket (new : NgReaderView) (bytes : List ℕ) (frames : List Framed) : Type 0 where
  pub next : Framed
  pub stands : Stands new bytes (frames ++ next ∷ [])
  pub lent : new.lent ≡ Some next

-- the reader that has taken the bytes takes the used bytes of the piece too, up to the end of the first packet block that becomes whole
abbrev pub Takes : NgReaderView → NgReaderView → List ℕ → Result NgTaken NgBad → Type 0
Takes old new piece result = (bytes : List ℕ) (frames : List Framed) → Stands old bytes frames
    → MatchResult result
    (λ taken. MatchBool taken.packet
    (TakesPacket new (bytes ++ take taken.used piece) frames)
    (Stands new (bytes ++ take taken.used piece) frames))
    (λ bad. RefusesNext old.limit (bytes ++ piece) frames bad)

-- the same of bytes with which no packet's block ends
abbrev pub TakesBytes : NgReaderView → NgReaderView → List ℕ → Result ℕ NgBad → Type 0
TakesBytes old new piece result = (bytes : List ℕ) (frames : List Framed) → Stands old bytes frames
    → MatchResult result
    (λ used. Stands new (bytes ++ take used piece) frames)
    (λ bad. RefusesNext old.limit (bytes ++ piece) frames bad)

-- how many bytes a reader has taken
abbrev pub taken_by : NgReaderView → ℕ
taken_by view = view.walk.offset + view.seen

-- the most bytes that a reader takes of a capture with so many packets, and so many other blocks
abbrev pub most_bytes : ℕ → ℕ
most_bytes limit = (2 * limit + 1) * 4294967295

-- no refusal is kept
abbrev pub IsGoing : Judged → Type 0
IsGoing (Waits n) = Unit {0}
IsGoing (Refused bad) = ⊥
IsGoing (Known plan) = Unit {0}

-- the reader goes on behind some bytes, which may end before the piece
pub record StepsOn (old new : NgReaderView) (piece : List ℕ) (taken : NgTaken) : Type 0 where
  pub some : 0 < taken.used
  pub bound : taken.used ≤ length piece
  pub packet : IsTrue taken.packet ↔ IsSome new.lent
  pub ends : taken.packet ≡ true → new.seen ≡ 0
  pub count : new.walk.packets ≡ (if taken.packet then old.walk.packets + 1 else old.walk.packets)
  pub bytes : taken_by new ≡ taken_by old + taken.used
  pub limit : new.limit ≡ old.limit
  pub few : new.walk.packets ≤ new.limit
  pub most : taken_by new ≤ most_bytes new.limit
  pub going : IsGoing new.judged

-- the reader goes on behind the bytes that it took; where a packet's block became whole it ended with the last of them, and
-- nothing of the next one is held
pub record GoesOn (old new : NgReaderView) (piece : List ℕ) (taken : NgTaken) : Type 0 where
  pub bound : taken.used ≤ length piece
  pub all : taken.packet ≡ false → taken.used ≡ length piece
  pub packet : IsTrue taken.packet ↔ IsSome new.lent
  pub ends : taken.packet ≡ true → new.seen ≡ 0
  pub count : new.walk.packets ≡ (if taken.packet then old.walk.packets + 1 else old.walk.packets)
  pub bytes : taken_by new ≡ taken_by old + taken.used
  pub few : new.walk.packets ≤ new.limit
  pub most : taken_by new ≤ most_bytes new.limit
  pub going : IsGoing new.judged

-- the reader that has taken the bytes takes one more packet too, whose block is the first so many bytes of the piece
abbrev pub TakesFront : NgReaderView → NgReaderView → List ℕ → ℕ → Framed → Type 0
TakesFront old new piece used frame = (bytes : List ℕ) (frames : List Framed) → Stands old bytes frames
    → Stands new (bytes ++ take used piece) (frames ++ frame ∷ [])

-- the reader goes on behind a packet block of so many bytes, which ended with the last of them
pub record GoesBehind (old new : NgReaderView) (piece : List ℕ) (used : ℕ) : Type 0 where
  pub some : 0 < used
  pub bound : used ≤ length piece
  pub ends : new.seen ≡ 0
  pub count : new.walk.packets ≡ old.walk.packets + 1
  pub bytes : taken_by new ≡ taken_by old + used
  pub few : new.walk.packets ≤ new.limit
  pub most : taken_by new ≤ most_bytes new.limit
  pub going : IsGoing new.judged

-- the answer at the end of input
abbrev pub end_in : ℕ → Option Order → Result ℕ NgBad
end_in seen None = Err (ShortSection seen)
end_in seen (Some order) = Ok seen

-- the same, by what is known of the block that has begun
abbrev pub end_by : NgReaderView → Judged → Result ℕ NgBad
end_by view (Waits n) = end_in view.seen view.walk.order
end_by view (Refused bad) = Err bad
end_by view (Known plan) = end_in view.seen view.walk.order

-- what the input's end comes to
abbrev pub end_of : NgReaderView → Result ℕ NgBad
end_of view = end_by view view.judged

-- what the whole input was, where it ended with this answer
abbrev pub outcome_of : List Framed → Result ℕ NgBad → NgOutcome
outcome_of frames (Ok cut) = NgWhole frames cut
outcome_of frames (Err bad) = NgRefused bad
