-- Messages whose key isn't live, counted.
use Rattle.std.specs.Prelude.{◌≤◌, ◌&&◌, ℤ, List, All, Bool, length, map, not, int_le}
use Rattle.std.specs.Global.{Vec}
use Rattle.packet_key.specs.declared.key.FlowKey.{FlowKey}
use Rattle.hash_rows.specs.declared.shape.Flow.{Flow}
use Rattle.hash_rows.specs.declared.shape.Push.{Push}
use Rattle.hash_rows.specs.Rules.{Rules}
use Rattle.hash_rows.specs.Tables.{TableView}
use Rattle.push_history.specs.LiveHeavy.{is_among}

-- so few workers and messages that they can be counted
abbrev pub AreFew : List (Vec Push) → Type 0
AreFew lists = (length lists ≤ 16) × All (λ list. length list.items ≤ 134217728) lists

-- the message's key isn't live
abbrev pub is_missed : List FlowKey → Push → Bool
is_missed live m = not (is_among live m.key)

-- neither is it, and the table says at least `least` of it
abbrev pub is_possible : Rules → TableView → ℤ → List FlowKey → Push → Bool
is_possible r table least live m = not (is_among live m.key) && int_le least (r.estimate table.shape table.cells m.key)

-- the estimate is at least `least`, and the key isn't live
abbrev pub is_sure : ℤ → List FlowKey → Flow → Bool
is_sure least live note = int_le least note.estimate && not (is_among live note.key)

-- the key is that of a message
abbrev pub has_key : List Push → FlowKey → Bool
has_key messages key = is_among (map (λ m. m.key) messages) key
