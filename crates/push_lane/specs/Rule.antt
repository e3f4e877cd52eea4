-- What was sent is what was taken and then what the lane holds. One pass at most may push, and it has the list of what was
-- sent. The same for pops.
use Rattle.std.specs.Prelude.{◌≡◌, ℕ, Bool, true, List, ◌++◌}
use mathlib.Core.Option.{some}
use lib.ListN.{get_elem?}
use Rattle.hash_rows.specs.declared.shape.Push.{Push}
use Rattle.push_lane.specs.declared.rule.Log.{Log}

-- what a pass over the lane may do and knows
abbrev pub log : Bool → Bool → List Push → List Push → Log
log a b sent taken = record { pushes = a; pops = b; sent = sent; taken = taken }

-- the list begins with this one
abbrev pub StartsWith : List Push → List Push → Type 0
StartsWith all front = (rest : List Push) × (all ≡ front ++ rest)

-- the list ends with this one
abbrev pub EndsWith : List Push → List Push → Type 0
EndsWith all back = (front : List Push) × (all ≡ front ++ back)

-- the pass that may push is the writer's and knows all that was sent, and the one that may pop knows all that was taken
abbrev pub Fits : ℕ → ℕ → List Push → List Push → ℕ → Log → Type 0
Fits writer reader sent taken port v = (v.pushes ≡ true → (port ≡ writer) × (v.sent ≡ sent))
    × (v.pops ≡ true → (port ≡ reader) × (v.taken ≡ taken))

-- the lane holds what was sent and not taken, and each pass fits
abbrev pub Kept : List Push → List Log → Type 0
Kept items views = (writer : ℕ) × (reader : ℕ) × (sent : List Push) × (taken : List Push) × (sent ≡ taken ++ items)
    × ((port : ℕ) (v : Log) → get_elem? views port ≡ some v → Fits writer reader sent taken port v)
