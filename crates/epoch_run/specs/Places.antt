-- Where the packets of epochs stand, and what is known of a table.
use Rattle.std.specs.Prelude.{◌≡◌, ℕ, ℤ, zero, suc, pos, List, [], map, cond, not}
use Rattle.std.specs.Ordering.{int_eq}
use Rattle.hash_rows.specs.declared.shape.Packet.{Packet}
use Rattle.hash_rows.specs.Sketches.{rows_of}
use Rattle.hash_rows.specs.Tables.{TableView, used_in}
use Rattle.epoch_run.specs.Epochs.{epoch_packets}

-- the packets of the epoch before, and none before the first
abbrev pub packets_before : ℕ → List Packet → ℕ → List Packet
packets_before size packets zero = []
packets_before size packets (suc e) = epoch_packets size packets e

-- for each row of the table how many of its cells aren't 0
abbrev pub HaveUsed : TableView → List ℕ → Type 0
HaveUsed table used = used ≡ map (used_in table) (rows_of table.shape)

-- 1 where the cell isn't 0
abbrev pub mark_of : ℤ → ℕ
mark_of a = cond (not (int_eq a (pos 0))) 1 0
