-- Flows whose estimates changed from one table to another.
use Rattle.std.specs.Prelude.{◌≡◌, ◌≤◌, ℕ, ℤ, pos, ◌-ℤ◌, List, All, length, map, take, unsigned_abs}
use Rattle.packet_key.specs.declared.key.FlowKey.{FlowKey}
use Rattle.hash_rows.specs.declared.options.Sketch.TheVariants.{CountSketch}
use Rattle.hash_rows.specs.declared.shape.Flow.{Flow}
use Rattle.hash_rows.specs.declared.shape.Packet.{Packet}
use Rattle.hash_rows.specs.Rules.{rules_of}
use Rattle.hash_rows.specs.Tables.{TableView}
use Rattle.heavy_keys.specs.FinalHeavy.{IsFinalHeavy}
use Rattle.epoch_run.specs.declared.change.Change.{Change}

-- what a table of a Count Sketch says of a key (Charikar, Chen, Farach-Colton: Finding frequent items in data streams, 2002)
abbrev pub estimates_of : TableView → FlowKey → ℤ
estimates_of table = (rules_of CountSketch).estimate table.shape table.cells

-- the keys of some packets
abbrev pub packet_keys : List Packet → List FlowKey
packet_keys packets = map (λ p. p.key) packets

-- how far apart the two estimates of a key are
abbrev pub distance_by : (FlowKey → ℤ) → (FlowKey → ℤ) → FlowKey → ℤ
distance_by before after key = pos (unsigned_abs (after key -ℤ before key))

-- the key of a flow with both its estimates
abbrev pub change_by : (FlowKey → ℤ) → (FlowKey → ℤ) → Flow → Change
change_by before after flow = record { key = flow.key; before = before flow.key; after = after flow.key }

-- the changes are those of the keys whose two estimates are at least so far apart, each key once: the farthest apart first,
-- of those as far apart the lesser key
pub record AreChanges (before after : FlowKey → ℤ) (least : ℕ) (keys : List FlowKey) (changes : List Change) : Type 0 where
  pub flows : List Flow
  pub far_apart : IsFinalHeavy (distance_by before after) (pos least) keys flows
  pub changes_are : changes ≡ map (change_by before after) flows

-- how many changes there are, and the first of them, at most `most`
pub record AreGreatest (before after : FlowKey → ℤ) (least : ℕ) (keys : List FlowKey) (most count : ℕ)
    (changes : List Change) : Type 0 where
  pub all : List Change
  pub all_changes : AreChanges before after least keys all
  pub number : count ≡ length all
  pub first : changes ≡ take most all

-- no cell is farther from 0 than that
abbrev pub AreWithin : ℕ → TableView → Type 0
AreWithin most table = All (λ cell. unsigned_abs cell ≤ most) table.cells
