-- What a state holds beside its cells.
use Rattle.std.specs.Prelude.{ℕ, ℤ, ◌+◌, List, replicate, slice_set}
use Rattle.packet_key.specs.declared.key.FlowKey.{FlowKey}
use Rattle.hash_rows.specs.Rules.{Rules}
use Rattle.hash_rows.specs.Tables.{TableView}
use Rattle.heavy_keys.specs.Noted.{HeavyTable, noted, fresh_table}
use Rattle.flow_base.specs.Calls.{one_more}
use Rattle.live_state.specs.Fold.{front_raised, key_noted}

-- of each worker how many messages were folded, and one more than the last folded update; how many messages were
-- folded; the heavy keys
pub record Tallied : Type 0 where
  pub front : List ℕ
  pub upto : List ℕ
  pub folded : ℕ
  pub heavy : HeavyTable

-- that of no message
abbrev pub fresh_tally : ℕ → ℕ → ℤ → Tallied
fresh_tally workers heavy least = record {
  front = replicate workers 0;
  upto = replicate workers 0;
  folded = 0;
  heavy = fresh_table heavy least;
}

-- with one message more of the worker
abbrev pub counted : Tallied → ℕ → ℕ → Tallied
counted t worker update = record {
  front = front_raised t.front worker;
  upto = slice_set t.upto worker (update + 1);
  folded = one_more t.folded;
  heavy = t.heavy;
}

-- with a key noted
abbrev pub key_noted_in : Tallied → FlowKey → ℤ → Tallied
key_noted_in t key estimate = record { front = t.front; upto = t.upto; folded = t.folded; heavy = noted t.heavy key estimate }

-- with the key noted with what the table says of it, where estimates depend on the key
abbrev pub table_noted : Rules → TableView → Tallied → FlowKey → Tallied
table_noted r table t key = record { front = t.front; upto = t.upto; folded = t.folded; heavy = key_noted r table t.heavy key }
