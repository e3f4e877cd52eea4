-- What a list of bytes is as a pcapng capture, where `limit` is the greatest number of packets, and of other blocks.
use Rattle.std.specs.Prelude.{◌≡◌, ◌<◌, ◌⊎◌, ℕ, ◌-◌, List, [], ◌∷◌, ◌++◌, length, take, drop, fold, Some}
use Rattle.std.specs.List.{flat_map}
use Rattle.pcap_read.specs.Header.{number_at}
use Rattle.pcap_read.specs.Records.{Framed}
use Rattle.pcapng_read.specs.Blocks.{start, judged, walk_past, block_refusal}
use Rattle.pcapng_read.specs.declared.bad.NgBad.{NgBad}
use Rattle.pcapng_read.specs.declared.bad.NgBad.TheVariants.{ShortSection}
use Rattle.pcapng_read.specs.declared.block.Walk.{Walk}
use Rattle.pcapng_read.specs.declared.block.Plan.{Plan}
use Rattle.pcapng_read.specs.declared.block.Body.{Body}
use Rattle.pcapng_read.specs.declared.block.Body.TheVariants.{Section, Interface, Packet, Passed}
use Rattle.pcapng_read.specs.declared.block.Judged.{Judged}
use Rattle.pcapng_read.specs.declared.block.Judged.TheVariants.{Waits, Refused, Known}

-- a block's bytes, and what the first of them tell
pub record Block : Type 0 where
  pub bytes : List ℕ
  pub plan : Plan

-- the block's bytes
abbrev pub text : Block → List ℕ
text b = b.bytes

-- a block that isn't refused stands whole, with its total length once more at its end
pub record IsBlock (limit : ℕ) (w : Walk) (b : Block) : Type 0 where
  pub known : judged limit w b.bytes ≡ Known b.plan
  pub whole : length b.bytes ≡ b.plan.total
  pub ends : number_at b.plan.order 4 b.bytes (b.plan.total - 4) ≡ b.plan.total

-- what stands behind blocks
abbrev pub walk_behind : Walk → List Block → Walk
walk_behind w blocks = fold (λ (v : Walk) (b : Block). walk_past v b.plan) w blocks

-- each is a block behind those before it
unfoldable pub AreBlocks : ℕ → Walk → List Block → Type 0
AreBlocks limit w [] = Unit {0}
AreBlocks limit w (b ∷ bs) = IsBlock limit w b × AreBlocks limit (walk_past w b.plan) bs

-- the packet of a block, if it has one
abbrev pub frame_in : List ℕ → Body → List Framed
frame_in x (Packet at captured original) = record { original = original; bytes = take captured (drop at x) } ∷ []
frame_in x Section = []
frame_in x (Interface snapshot) = []
frame_in x Passed = []

-- the frame that a block has, where it is one of a packet
abbrev pub framed : Block → List Framed
framed b = frame_in b.bytes b.plan.body

-- less than the block that it begins, and not refused
abbrev pub IsPartOfBlock : List ℕ → Judged → Type 0
IsPartOfBlock rest (Waits n) = Unit {0}
IsPartOfBlock rest (Refused bad) = ⊥
IsPartOfBlock rest (Known plan) = length rest < plan.total

-- the bytes are these blocks and less than the next one
pub record Cuts (limit : ℕ) (bytes : List ℕ) (blocks : List Block) (rest : List ℕ) : Type 0 where
  pub parts : bytes ≡ flat_map text blocks ++ rest
  pub each : AreBlocks limit start blocks
  pub partial : IsPartOfBlock rest (judged limit (walk_behind start blocks) rest)

-- the bytes are a capture of these packets, and a rest of the next block
pub record IsNgCapture (limit : ℕ) (bytes : List ℕ) (frames : List Framed) (rest : List ℕ) : Type 0 where
  pub blocks : List Block
  pub some : 0 < length blocks
  pub cut : Cuts limit bytes blocks rest
  pub frames_are : frames ≡ flat_map framed blocks

-- this refusal stands behind these packets, and before the end of the next one
pub record RefusesNext (limit : ℕ) (bytes : List ℕ) (frames : List Framed) (bad : NgBad) : Type 0 where
  pub blocks : List Block
  pub rest : List ℕ
  pub parts : bytes ≡ flat_map text blocks ++ rest
  pub each : AreBlocks limit start blocks
  pub frames_are : frames ≡ flat_map framed blocks
  pub refused : block_refusal limit (walk_behind start blocks) rest ≡ Some bad

-- this refusal stands first in the bytes
abbrev pub Refuses : ℕ → List ℕ → NgBad → Type 0
Refuses limit bytes bad = (frames : List Framed) × RefusesNext limit bytes frames bad

-- what a whole input is: packets with the number of rest bytes behind the last block, or the one refusal
pub data NgOutcome : Type 0 where
  NgWhole : List Framed → ℕ → NgOutcome
  NgRefused : NgBad → NgOutcome

-- what the bytes are as a whole: packets with so many cut bytes behind them, or the one refusal
abbrev pub NgCaptureOf : ℕ → List ℕ → NgOutcome → Type 0
NgCaptureOf limit bytes (NgWhole frames cut) = (rest : List ℕ) × IsNgCapture limit bytes frames rest × (cut ≡ length rest)
NgCaptureOf limit bytes (NgRefused bad) = Refuses limit bytes bad ⊎ (Cuts limit bytes [] bytes × (bad ≡ ShortSection (length bytes)))
