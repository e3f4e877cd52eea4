-- What is so of each block that is known.
use Rattle.std.specs.Prelude.{◌≢◌, ◌<◌, ◌≤◌, ℕ, ◌+◌, ◌*◌}
use Rattle.pcap_read.specs.Records.{most_captured}
use Rattle.pcapng_read.specs.Blocks.{keep_of}
use Rattle.pcapng_read.specs.declared.block.Walk.{Walk}
use Rattle.pcapng_read.specs.declared.block.Plan.{Plan}
use Rattle.pcapng_read.specs.declared.block.Body.{Body}
use Rattle.pcapng_read.specs.declared.block.Body.TheVariants.{Section, Interface, Packet, Passed}
use Rattle.pcapng_read.specs.declared.block.Judged.{Judged}
use Rattle.pcapng_read.specs.declared.block.Judged.TheVariants.{Waits, Refused, Known}

-- how many blocks of its sort came before
abbrev pub count_in : Walk → Body → ℕ
count_in w (Packet at captured original) = w.packets
count_in w Section = w.others
count_in w (Interface snapshot) = w.others
count_in w Passed = w.others

-- how many captured bytes it has
abbrev pub captured_in : Body → ℕ
captured_in (Packet at captured original) = captured
captured_in Section = 0
captured_in (Interface snapshot) = 0
captured_in Passed = 0

-- where its captured bytes stand
abbrev pub at_in : Body → ℕ
at_in (Packet at captured original) = at
at_in Section = 0
at_in (Interface snapshot) = 0
at_in Passed = 0

-- the bytes that are read stand before the last four, and the limit isn't reached
pub record IsSoundPlan (limit : ℕ) (w : Walk) (plan : Plan) : Type 0 where
  pub long : 8 ≤ keep_of plan
  pub room : keep_of plan + 4 ≤ plan.total
  pub small : captured_in plan.body ≤ most_captured
  pub near : at_in plan.body ≤ 28
  pub few : count_in w plan.body ≢ limit

-- the counts and the offset have room for one block more
pub record HasRoomForBlock (w : Walk) : Type 0 where
  pub interfaces : w.interfaces ≤ w.others
  pub packets : w.packets < 4294967296
  pub others : w.others < 4294967296
  pub offset : w.offset ≤ (w.packets + w.others) * 4294967295

-- the counts and the offset have room for what the block adds
pub record HasRoom (w : Walk) (plan : Plan) : Type 0 where
  pub count : count_in w plan.body + 1 < 4294967296
  pub total : plan.total < 4294967296

-- where more bytes were wanted, the block that is known then is read at least so far
abbrev pub Late : ℕ → Walk → ℕ → Judged → Type 0
Late limit w n (Waits m) = Unit {0}
Late limit w n (Refused bad) = Unit {0}
Late limit w n (Known plan) = (n ≤ keep_of plan) × IsSoundPlan limit w plan

-- so many bytes are wanted, of the first 28
abbrev pub WantsMore : ℕ → Judged → Type 0
WantsMore len (Waits n) = (len < n) × (n ≤ 28)
WantsMore len (Refused bad) = Unit {0}
WantsMore len (Known plan) = Unit {0}
