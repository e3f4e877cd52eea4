-- What a run in threads leaves.
use Rattle.std.specs.Prelude.{◌≡◌, ◌<◌, ℕ, List, Bool, All, length, slice_index_or}
use Rattle.hash_rows.specs.declared.options.Full.TheVariants.{Leave}
use Rattle.hash_rows.specs.declared.options.Options.{Options}
use Rattle.push_lane.specs.Views.{BothView, LaneView}
use Rattle.thread_ends.specs.Ends.{AreOf, both_fulls, both_sents, both_takens}
use Rattle.thread_law.specs.Ran.{marked_by}

-- one lane of the asked capacity for each worker, and its pass, through which all that was sent was taken; where pushes
-- don't wait, the lane was full as often as an update was refused
pub record AreDrained (o : Options) (lanes : List LaneView) (passes : List BothView) (bits : List (List Bool)) : Type 0 where
  pub lanes_len : length lanes ≡ o.workers
  pub capacity : All (λ l. l.capacity ≡ o.lane) lanes
  pub ends : AreOf lanes passes
  pub drained : both_takens passes ≡ both_sents passes
  pub fulls : (w : ℕ) → w < o.workers → o.full ≡ Leave → slice_index_or (both_fulls passes) w 0 ≡ length (marked_by bits w)
