-- What contracts see of an aggregator, and what its calls do.
use Rattle.std.specs.Prelude.{◌≡◌, ◌≤◌, ℕ, List, [], ◌∷◌, ◌++◌, Option, Some, None, filter, length, slice_set}
use Rattle.std.specs.List.{flat_map}
use Rattle.hash_rows.specs.declared.shape.Push.{Push}
use Rattle.hash_rows.specs.Rules.{Rules}
use Rattle.push_lane.specs.Views.{OutView}
use Rattle.live_state.specs.Fold.{fits}
use Rattle.live_view.specs.Views.{WriterView}
use Rattle.aggregate.specs.Takens.{AreTaken, taken_at, takens}

-- the writer; the passes; how many messages are taken of a lane at most; the message that couldn't be appended
pub record AggregatorView : Type 0 where
  pub writer : WriterView
  pub outs : List OutView
  pub batch : ℕ
  pub held : Option Push

-- the held message, as a list
abbrev pub listed_held : Option Push → List Push
listed_held None = []
listed_held (Some m) = m ∷ []

-- what was published, then what is pending, then the held message
abbrev pub kept_by : AggregatorView → List Push
kept_by a = a.writer.published ++ a.writer.pending ++ listed_held a.held

-- the aggregator has what was taken of the lanes
abbrev pub HasTaken : Rules → AggregatorView → Type 0
HasTaken r a = AreTaken r a.writer.layout (takens a.outs) (kept_by a)

-- the pair and the batch stay
pub record KeepsPair (old new : AggregatorView) : Type 0 where
  pub book : new.writer.book ≡ old.writer.book
  pub layout : new.writer.layout ≡ old.writer.layout
  pub batch : new.batch ≡ old.batch

-- behind what was kept stands what fits of these messages, in their order
abbrev pub HasKept : Rules → List Push → AggregatorView → AggregatorView → Type 0
HasKept r more old new = kept_by new ≡ kept_by old ++ filter (fits r old.writer.layout) more

-- these messages more were taken of the lane at the place, and what fits of them was kept
pub record HasSweptLane (r : Rules) (place : ℕ) (more : List Push) (old new : AggregatorView) : Type 0 where
  pub took : takens new.outs ≡ slice_set (takens old.outs) place (taken_at (takens old.outs) place ++ more)
  pub kept : HasKept r more old new

-- of each lane these messages more were taken, at most so many
pub record HaveTaken (most : ℕ) (mores : List (List Push)) (old new : List OutView) : Type 0 where
  pub each : (w : ℕ) → taken_at (takens new) w ≡ taken_at (takens old) w ++ taken_at mores w
  pub few : (w : ℕ) → length (taken_at mores w) ≤ most

-- the messages of all lanes, lane after lane
abbrev pub in_order : List (List Push) → List Push
in_order mores = flat_map (λ (more : List Push). more) mores

-- these messages more were taken, of each lane at most a batch, and what fits of them was kept, lane after lane
pub record HasSwept (r : Rules) (mores : List (List Push)) (old new : AggregatorView) : Type 0 where
  pub took : HaveTaken old.batch mores old.outs new.outs
  pub kept : HasKept r (in_order mores) old new
