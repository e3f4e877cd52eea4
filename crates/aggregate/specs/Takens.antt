-- What was taken of each lane.
use Rattle.std.specs.Prelude.{◌≡◌, ℕ, true, List, [], All, map, slice_index_or}
use Rattle.hash_rows.specs.declared.shape.Push.{Push}
use Rattle.hash_rows.specs.Rules.{Rules}
use Rattle.push_history.specs.Front.{messages_of}
use Rattle.push_lane.specs.Views.{LaneView, OutView}
use Rattle.live_state.specs.Fold.{fits}
use Rattle.live_state.specs.declared.layout.Layout.{Layout}

-- each pass is one of the lane at its place
abbrev pub ArePassesOf : List LaneView → List OutView → Type 0
ArePassesOf lanes outs = map (λ (o : OutView). o.id) outs ≡ map (λ (l : LaneView). l.id) lanes

-- what each pass took
abbrev pub takens : List OutView → List (List Push)
takens outs = map (λ (o : OutView). o.taken) outs

-- what was taken of the lane at the place
abbrev pub taken_at : List (List Push) → ℕ → List Push
taken_at lists place = slice_index_or lists place []

-- each message that was taken of a lane names the lane's worker, and fits
abbrev pub AreNamed : Rules → Layout → List (List Push) → Type 0
AreNamed r l lists = (w : ℕ) → All (λ m. (m.worker ≡ w) × (fits r l m ≡ true)) (taken_at lists w)

-- where each names its worker and fits, the messages of a worker are those that were taken of its lane
abbrev pub AreTaken : Rules → Layout → List (List Push) → List Push → Type 0
AreTaken r l lists messages = AreNamed r l lists → (w : ℕ) → messages_of w messages ≡ taken_at lists w
