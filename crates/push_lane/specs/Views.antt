-- What contracts see in a lane and in its passes.
use Rattle.std.specs.Prelude.{ℕ, List, ◌+◌, ◌-◌, ◌^◌, min, max}
-- the mark of a lane
pub use Rattle.atomic_table.specs.Seated.{TableId}
use Rattle.hash_rows.specs.declared.shape.Push.{Push}

-- which lane it is, and how many messages it holds at most
pub record LaneView : Type 0 where
  pub id : TableId
  pub capacity : ℕ

-- of which lane it is, what was sent through it, and how often the lane was full
pub record InView : Type 0 where
  pub id : TableId
  pub sent : List Push
  pub fulls : ℕ

-- of which lane it is, and what was taken through it
pub record OutView : Type 0 where
  pub id : TableId
  pub taken : List Push

-- one pass that pushes and pops: the lane, what was sent, what was taken, and how often the lane was full
pub record BothView : Type 0 where
  pub id : TableId
  pub sent : List Push
  pub taken : List Push
  pub fulls : ℕ

-- the count after one more, which stays at its last value
abbrev pub one_more_or_last : ℕ → ℕ
one_more_or_last n = max n (min (n + 1) (2 ^ 64 - 1))
