-- What a table of heavy keys becomes as keys are noted in it.
use Rattle.std.specs.Prelude.{ℕ, ◌&&◌, ℤ, Bool, List, [], ◌∷◌, ◌++◌, length, nat_lt, int_le, not, if◌then◌else◌}
use Rattle.flow_base.specs.Calls.{one_more}
use Rattle.packet_key.specs.declared.key.FlowKey.{FlowKey}
use Rattle.push_history.specs.LiveHeavy.{is_among}

-- a table of heavy keys: the keys in the order in which they came, how often a key found no room, how many keys have
-- room, and the least estimate of a heavy key
pub record HeavyTable : Type 0 where
  pub keys : List FlowKey
  pub missed : ℕ
  pub limit : ℕ
  pub least : ℤ

-- whether a key with this estimate is heavy and isn't there yet
abbrev pub is_due : HeavyTable → FlowKey → ℤ → Bool
is_due table key estimate = int_le table.least estimate && not (is_among table.keys key)

-- the table with the key added, or counted as missed where no room is left
abbrev pub kept_or_missed : HeavyTable → FlowKey → HeavyTable
kept_or_missed table key =
    if nat_lt (length table.keys) table.limit then record table { keys = table.keys ++ key ∷ [] }
    else record table { missed = one_more table.missed }

-- the table after the key was noted with its estimate
abbrev pub noted : HeavyTable → FlowKey → ℤ → HeavyTable
noted table key estimate = if is_due table key estimate then kept_or_missed table key else table

-- a table in which no key was noted
abbrev pub fresh_table : ℕ → ℤ → HeavyTable
fresh_table limit least = record { keys = []; missed = 0; limit = limit; least = least }
