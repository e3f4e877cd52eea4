-- The heavy flows of a whole capture.
use Rattle.std.specs.Prelude.{◌≡◌, ◌⊎◌, ℕ, ℤ, ◌≤ℤ◌, ◌<ℤ◌, List, Contains, AllPairs, length, take}
use Rattle.std.specs.declared.cmp.Ordering.{Ordering}
use Rattle.std.specs.declared.cmp.Ordering.TheVariants.{Less}
use Rattle.packet_key.specs.declared.key.FlowKey.{FlowKey}
use Rattle.packet_key.specs.contracts.key.FlowKeyOrd.TheImpl as order
use Rattle.hash_rows.specs.declared.shape.Flow.{Flow}

-- the order of keys
abbrev pub key_cmp : FlowKey → FlowKey → Ordering
key_cmp = (order.ghosts).cmp

-- the greater estimate is before the lesser; of equal ones, the lesser key is before the greater
abbrev pub IsBefore : Flow → Flow → Type 0
IsBefore a b = (b.estimate <ℤ a.estimate) ⊎ ((a.estimate ≡ b.estimate) × (key_cmp a.key b.key ≡ Less))

-- the flows are in order, and they are the keys whose estimate is at least `least`, each once with its estimate
pub record IsFinalHeavy (estimate_of : FlowKey → ℤ) (least : ℤ) (keys : List FlowKey) (flows : List Flow) : Type 0 where
  pub sorted : AllPairs IsBefore flows
  pub sound : (flow : Flow) → Contains flows flow → Contains keys flow.key × (flow.estimate ≡ estimate_of flow.key)
      × (least ≤ℤ flow.estimate)
  pub whole : (key : FlowKey) → Contains keys key → least ≤ℤ estimate_of key
      → Contains flows (record { key = key; estimate = estimate_of key })

-- how many flows are heavy, and the first of them, at most `most`
pub record AreHeaviest (estimate_of : FlowKey → ℤ) (least : ℤ) (keys : List FlowKey) (most : ℕ) (count : ℕ)
    (flows : List Flow) : Type 0 where
  pub all : List Flow
  pub all_heavy : IsFinalHeavy estimate_of least keys all
  pub number : count ≡ length all
  pub first : flows ≡ take most all
