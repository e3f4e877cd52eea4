-- Flows in a set by rank: the greatest estimate first, of equal ones the least key.
use Rattle.std.specs.Prelude.{◌≡◌, ℤ, ◌≤ℤ◌, List, Contains}
use Rattle.std.specs.Ordering.{int_cmp, ordering_then}
use Rattle.std.specs.declared.cmp.Ordering.{Ordering}
use Rattle.std.specs.declared.cmp.Reverse.{Reverse}
use Rattle.packet_key.specs.declared.key.FlowKey.{FlowKey}
use Rattle.hash_rows.specs.declared.shape.Flow.{Flow}
use Rattle.heavy_keys.specs.FinalHeavy.{key_cmp}

-- an estimate and its key
abbrev pub Rank : Type 0
Rank = Reverse ℤ × FlowKey

-- the rank of a flow
abbrev pub flow_rank : ℤ → FlowKey → Rank
flow_rank estimate key = (record { 0 = estimate }, key)

-- the greater estimate first; of equal ones, the lesser key
abbrev pub rank_order : Rank → Rank → Ordering
rank_order a b = ordering_then (int_cmp b.0.0 a.0.0) (key_cmp a.1 b.1)

-- the flow of a rank
abbrev pub flow_at_rank : Rank → Flow
flow_at_rank rank = record { key = rank.1; estimate = rank.0.0 }

-- the ranks are those of the keys whose estimate is at least `least`
pub record AreHeavy (estimate_of : FlowKey → ℤ) (least : ℤ) (keys : List FlowKey) (ranks : List Rank) : Type 0 where
  pub sound : (rank : Rank) → Contains ranks rank → Contains keys rank.1 × (rank.0.0 ≡ estimate_of rank.1) × (least ≤ℤ rank.0.0)
  pub whole : (key : FlowKey) → Contains keys key → least ≤ℤ estimate_of key → Contains ranks (flow_rank (estimate_of key) key)
