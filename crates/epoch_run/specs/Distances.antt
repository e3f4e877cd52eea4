-- Distances of estimates as numbers of 64 bits with sign.
use Rattle.std.specs.Prelude.{ℤ, pos, ◌-ℤ◌, min, unsigned_abs}
use Rattle.packet_key.specs.declared.key.FlowKey.{FlowKey}
use Rattle.hash_rows.specs.Tables.{TableView}
use Rattle.epoch_run.specs.Changes.{estimates_of}

-- how far apart the estimates of a key on two tables are, or the greatest number of 64 bits with sign where they are farther
abbrev pub capped_distance : TableView → TableView → FlowKey → ℤ
capped_distance old new key = pos (min (unsigned_abs (estimates_of new key -ℤ estimates_of old key)) 9223372036854775807)
