-- When a table of heavy keys holds the live keys of what was noted.
use Rattle.std.specs.Prelude.{◌≡◌, List, min}
use Rattle.hash_rows.specs.declared.shape.Flow.{Flow}
use Rattle.push_history.specs.LiveHeavy.{live_of, missed_of}
use Rattle.heavy_keys.specs.Noted.{HeavyTable}

-- the keys are the live ones of these notes, and the rest was counted as missed, up to the last number of 64 bits
pub record HoldsLive (table : HeavyTable) (notes : List Flow) : Type 0 where
  pub keys : table.keys ≡ live_of table.limit table.least notes
  pub missed : table.missed ≡ min (missed_of table.limit table.least notes) 18446744073709551615
