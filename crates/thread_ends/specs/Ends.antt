-- Lanes whose two ends are one.
use Rattle.std.specs.Prelude.{◌≡◌, ℕ, List, [], ◌∷◌, ◌++◌, All, map, slice_set}
use Rattle.hash_rows.specs.declared.shape.Push.{Push}
use Rattle.hash_rows.specs.Rules.{Rules}
use Rattle.aggregate.specs.Takens.{AreTaken, taken_at, takens}
use Rattle.live_view.specs.Views.{WriterView}
use Rattle.push_lane.specs.Rule.{StartsWith}
use Rattle.push_lane.specs.Views.{BothView, InView, LaneView, OutView}
use Rattle.thread_run.specs.declared.parts.WorkerPart.{WorkerPart}

-- what was sent through each pass
abbrev pub both_sents : List BothView → List (List Push)
both_sents passes = map (λ (b : BothView). b.sent) passes

-- what was taken through each pass
abbrev pub both_takens : List BothView → List (List Push)
both_takens passes = map (λ (b : BothView). b.taken) passes

-- how often each lane was full
abbrev pub both_fulls : List BothView → List ℕ
both_fulls passes = map (λ (b : BothView). b.fulls) passes

-- each pass is one of the lane at its place
abbrev pub AreOf : List LaneView → List BothView → Type 0
AreOf lanes passes = map (λ (b : BothView). b.id) passes ≡ map (λ (l : LaneView). l.id) lanes

-- what was taken of each lane begins what was sent
abbrev pub HaveOrder : List BothView → Type 0
HaveOrder passes = All (λ (b : BothView). StartsWith b.sent b.taken) passes

-- the pass knows what both ends of the lane knew
pub record IsOne (lane : LaneView) (sent : InView) (taken : OutView) (one : BothView) : Type 0 where
  pub id : one.id ≡ lane.id
  pub sent_is : one.sent ≡ sent.sent
  pub fulls : one.fulls ≡ sent.fulls
  pub taken_is : one.taken ≡ taken.taken
  pub order : StartsWith one.sent one.taken

module _ {K H : Type 0} where
  -- each pass knows what both ends of the lane at its place knew
  pub record AreOne (lanes : List LaneView) (workers : List (WorkerPart K H)) (outs : List OutView) (passes : List BothView) : Type 0 where
    pub ids : AreOf lanes passes
    pub sents : both_sents passes ≡ map (λ (p : WorkerPart K H). p.pass.sent) workers
    pub fulls : both_fulls passes ≡ map (λ (p : WorkerPart K H). p.pass.fulls) workers
    pub taken : both_takens passes ≡ takens outs
    pub order : HaveOrder passes

-- the lanes of the passes, what was sent through them, and how often they were full, stay
pub record KeepLists (old new : List BothView) : Type 0 where
  pub ids : map (λ (b : BothView). b.id) new ≡ map (λ (b : BothView). b.id) old
  pub sents : both_sents new ≡ both_sents old
  pub fulls : both_fulls new ≡ both_fulls old

-- the pair, and what it published, stay
pub record KeepsPublished (old new : WriterView) : Type 0 where
  pub book : new.book ≡ old.book
  pub layout : new.layout ≡ old.layout
  pub published : new.published ≡ old.published

-- what the writer published, and what it will publish next
abbrev pub kept_in : WriterView → List Push
kept_in w = w.published ++ w.pending

-- the writer has what was taken of the lanes
abbrev pub HasAll : Rules → List BothView → WriterView → Type 0
HasAll r passes w = AreTaken r w.layout (both_takens passes) (kept_in w)

-- the writer has what was taken of the lanes, but for the last message
abbrev pub LacksLast : Rules → List BothView → WriterView → Type 0
LacksLast r passes w = (m : Push) × AreTaken r w.layout (both_takens passes) (kept_in w ++ m ∷ [])

-- the lists with one message more at the place
abbrev pub with_message : List (List Push) → ℕ → Push → List (List Push)
with_message lists place m = slice_set lists place (taken_at lists place ++ m ∷ [])
