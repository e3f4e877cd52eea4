-- What a state is, and what a message makes of it.
use Rattle.std.specs.Prelude.{◌≡◌, ℕ, ℤ, pos, ◌+◌, ◌&&◌, Bool, true, List, length, replicate, nat_lt, fold, All, slice_set, slice_index_or, if◌then◌else◌}
use Rattle.flow_base.specs.Calls.{one_more}
use Rattle.packet_key.specs.declared.key.FlowKey.{FlowKey}
use Rattle.hash_rows.specs.declared.options.Options.{Options}
use Rattle.hash_rows.specs.declared.shape.Push.{Push}
use Rattle.hash_rows.specs.declared.shape.Shape.{Shape}
use Rattle.hash_rows.specs.Rules.{Rules}
use Rattle.hash_rows.specs.Shapes.{size_of}
use Rattle.hash_rows.specs.Tables.{TableView, put_in}
use Rattle.heavy_keys.specs.Noted.{HeavyTable, noted, fresh_table}
use Rattle.live_state.specs.declared.layout.Layout.{Layout}

-- the table of cells; of each worker how many messages were folded, and one more than the last folded update; how many
-- messages were folded; the heavy keys
pub record StateView : Type 0 where
  pub table : TableView
  pub front : List ℕ
  pub upto : List ℕ
  pub folded : ℕ
  pub heavy : HeavyTable

-- the last number of a count of 64 bits
abbrev pub most : ℕ
most = 18446744073709551615

-- what the state of a run with these options is made for
abbrev pub layout_in : Options → Layout
layout_in o = record { shape = o.shape; workers = o.workers; heavy = o.heavy; least = o.least }

-- what the state is made for
abbrev pub layout_of : StateView → Layout
layout_of s = record { shape = s.table.shape; workers = length s.front; heavy = s.heavy.limit; least = s.heavy.least }

-- the cells of a table of zeros
abbrev pub zero_cells : Shape → List ℤ
zero_cells shape = replicate (size_of shape) (pos 0)

-- the state with no message
abbrev pub fresh_state : Layout → StateView
fresh_state l = record {
  table = record { shape = l.shape; cells = zero_cells l.shape };
  front = replicate l.workers 0;
  upto = replicate l.workers 0;
  folded = 0;
  heavy = fresh_table l.heavy l.least;
}

-- the worker and the cell are in range, and the amount is one of the kind's values
abbrev pub fits : Rules → Layout → Push → Bool
fits r l m = nat_lt m.worker l.workers && (nat_lt m.cell (size_of l.shape) && r.is_value m.amount)

-- the heavy keys after a key was noted with what the table says of it, where estimates depend on the key
abbrev pub key_noted : Rules → TableView → HeavyTable → FlowKey → HeavyTable
key_noted r table heavy key = if r.keyed then noted heavy key (r.estimate table.shape table.cells key) else heavy

-- the front with one message more of the worker
abbrev pub front_raised : List ℕ → ℕ → List ℕ
front_raised front worker = slice_set front worker (one_more (slice_index_or front worker 0))

-- the state with a message that fits
abbrev pub added : Rules → StateView → Push → StateView
added r s m =
    let table = put_in r.join s.table m.cell m.amount in
    record {
      table = table;
      front = front_raised s.front m.worker;
      upto = slice_set s.upto m.worker (m.update + 1);
      folded = one_more s.folded;
      heavy = key_noted r table s.heavy m.key;
    }

-- a message that doesn't fit changes nothing
abbrev pub absorbed : Rules → StateView → Push → StateView
absorbed r s m = if fits r (layout_of s) m then added r s m else s

-- the state after some messages
abbrev pub state_after : Rules → Layout → List Push → StateView
state_after r l messages = fold (absorbed r) (fresh_state l) messages

-- each of them fits
abbrev pub Fit : Rules → Layout → List Push → Type 0
Fit r l messages = All (λ m. fits r l m ≡ true) messages

-- the state is that after the messages, and each of them fits
pub record IsStateAfter (r : Rules) (s : StateView) (messages : List Push) : Type 0 where
  pub fit : Fit r (layout_of s) messages
  pub sums : s ≡ state_after r (layout_of s) messages
