-- How far a run is.
use Rattle.std.specs.Prelude.{◌≡◌, ◌<◌, ◌≤◌, ℕ, ℤ, List, length, false, slice_index_or}
use Rattle.std.specs.List.{list_any}
use Rattle.listed.specs.Listed.{Listed}
use Rattle.hash_rows.specs.declared.answer.Answer.{Answer}
use Rattle.hash_rows.specs.declared.options.Options.{Options}
use Rattle.hash_rows.specs.declared.shape.Packet.{Packet}
use Rattle.hash_rows.specs.Rules.{Rules}
use Rattle.push_history.specs.LagRun.{Terms}
use Rattle.push_history.specs.Share.{share_of_worker}
use Rattle.live_state.specs.Fold.{StateView, state_after, layout_in}
use Rattle.round_law.specs.OwnRounds.{folded_after}
use Rattle.octo_engine.specs.declared.worker.Part.{Part}
use Rattle.octo_engine.specs.Counts.{HasShare}
use Rattle.octo_engine.specs.Looks.{AreLooks, Runs}
use Rattle.octo_engine.specs.Parts.{IsWorkerAfter, is_busy_part}

-- the terms are of a run over these packets
pub record AreTerms (r : Rules) (t : Terms) (o : Options) (packets : List Packet) : Type 0 where
  pub runs : Runs r t o
  pub shares : (w : ℕ) → w < o.workers → HasShare r t o.shape packets w (share_of_worker o.share o.workers packets w)
  pub some_lane : 1 ≤ t.capacity

-- a worker of the run is made by these options
pub record Suit (r : Rules) (t : Terms) (o : Options) : Type 0 where
  pub rules : t.rules ≡ r
  pub threshold : t.threshold ≡ o.threshold
  pub capacity : t.capacity ≡ o.lane
  pub full : t.full ≡ o.full

module _ {K Held : Type 0} where
  -- the parts are the workers after n rounds
  pub record AreWorkersAfter (stands : Held → ℤ → ℤ → Type 0) (t : Terms) (o : Options) (packets : List Packet) (n : ℕ)
      (parts : List (Part K Held)) : Type 0 where
    pub len : length parts ≡ o.workers
    pub each : (w : ℕ) (p : Part K Held) → w < o.workers → IsWorkerAfter stands t o packets n w (slice_index_or parts w p)

  -- the parts, the state and the looks are those after so many rounds
  pub record IsAfter (stands : Held → ℤ → ℤ → Type 0) (r : Rules) (t : Terms) (o : Options) (packets : List Packet)
      (parts : List (Part K Held)) (state : StateView) (looks : Listed Answer) : Type 0 where
    pub rounds : ℕ
    pub workers : AreWorkersAfter stands t o packets rounds parts
    pub state_is : state ≡ state_after r (layout_in o) (folded_after t o rounds)
    pub seen : AreLooks r t o rounds looks

  -- no worker is busy after n rounds
  pub record IsAtEnd (stands : Held → ℤ → ℤ → Type 0) (r : Rules) (t : Terms) (o : Options) (packets : List Packet) (n : ℕ)
      (parts : List (Part K Held)) (state : StateView) : Type 0 where
    pub workers : AreWorkersAfter stands t o packets n parts
    pub state_is : state ≡ state_after r (layout_in o) (folded_after t o n)
    pub none : list_any is_busy_part parts ≡ false
