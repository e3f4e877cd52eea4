-- Where a reader stands in a pcapng capture.
use Rattle.std.specs.Prelude.{◌≡◌, ℕ, ◌-◌, List, [], ◌++◌, length, take, drop, Option, None}
use Rattle.pcap_read.specs.Records.{Framed}
use Rattle.std.specs.List.{flat_map}
use Rattle.pcapng_read.specs.Blocks.{start, judged, keep_of}
use Rattle.pcapng_read.specs.Capture.{Block, Cuts, framed, walk_behind}
use Rattle.pcapng_read.specs.declared.bad.NgBad.{NgBad}
use Rattle.pcapng_read.specs.declared.block.Walk.{Walk}
use Rattle.pcapng_read.specs.declared.block.Plan.{Plan}
use Rattle.pcapng_read.specs.declared.block.Judged.{Judged}
use Rattle.pcapng_read.specs.declared.block.Judged.TheVariants.{Waits, Refused, Known}

-- what stands in front of the block that is read, what is known of it, how many of its bytes have come, those of them that
-- are held, and the packet that can be lent
pub record NgReaderView : Type 0 where
  pub limit : ℕ
  pub walk : Walk
  pub judged : Judged
  pub seen : ℕ
  pub held : List ℕ
  pub lent : Option Framed

-- nothing was taken
abbrev pub start_of : ℕ → NgReaderView
start_of limit = record { limit = limit; walk = start; judged = Waits 4; seen = 0; held = []; lent = None }

-- a refusal is kept, and nothing else
abbrev pub refused_at : ℕ → NgBad → NgReaderView
refused_at limit bad = record { limit = limit; walk = start; judged = Refused bad; seen = 0; held = []; lent = None }

-- what is held of a block that is known: the front that is read, and the last four bytes
abbrev pub kept_in : Plan → List ℕ → List ℕ
kept_in plan x = take (keep_of plan) x ++ drop (plan.total - 4) x

-- what is held of a block: all of it until it is known
abbrev pub kept_of : List ℕ → Judged → List ℕ
kept_of x (Waits n) = x
kept_of x (Refused bad) = x
kept_of x (Known plan) = kept_in plan x

-- the reader has taken these bytes, and lent these packets
pub record Stands (view : NgReaderView) (bytes : List ℕ) (frames : List Framed) : Type 0 where
  pub blocks : List Block
  pub rest : List ℕ
  pub cut : Cuts view.limit bytes blocks rest
  pub frames_are : frames ≡ flat_map framed blocks
  pub walk : view.walk ≡ walk_behind start blocks
  pub judged_is : view.judged ≡ judged view.limit view.walk rest
  pub seen : view.seen ≡ length rest
  pub held : view.held ≡ kept_of rest view.judged
