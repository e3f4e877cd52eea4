-- The updates of a worker: what each packet of its share adds in each row.
use Rattle.std.specs.Prelude.{◌≡◌, ◌≢◌, ◌<◌, ℕ, pos, List, map, slice_index_or, All, true}
use Rattle.std.specs.List.{flat_map}
use Rattle.hash_rows.specs.declared.shape.Shape.{Shape}
use Rattle.hash_rows.specs.declared.shape.Packet.{Packet}
use Rattle.hash_rows.specs.declared.shape.Update.{Update}
use Rattle.hash_rows.specs.Rules.{Rules}
use Rattle.hash_rows.specs.Shapes.{cell_of}
use Rattle.hash_rows.specs.Sketches.{rows_of}
use Rattle.push_history.specs.Share.{packet_at, zero_key}

-- what a packet adds in a row
unfoldable pub update_in_row : Rules → Shape → ℕ → Packet → ℕ → Update
update_in_row r shape position packet row = record {
  packet = position;
  key = packet.key;
  cell = cell_of shape packet.key row;
  value = r.value shape packet row;
}

-- what the packet at a position adds, one update for each row in order
unfoldable pub updates_at : Rules → Shape → List Packet → ℕ → List Update
updates_at r shape packets position = map (update_in_row r shape position (packet_at packets position)) (rows_of shape)

-- one update for each packet of the share in order and each row in order
unfoldable pub updates_of : Rules → Shape → List Packet → List ℕ → List Update
updates_of r shape packets share = flat_map (updates_at r shape packets) share

-- update number k
abbrev pub update_at : List Update → ℕ → Update
update_at updates k = slice_index_or updates k (record { packet = 0; key = zero_key; cell = 0; value = pos 0 })

-- each update's value is the kind's
abbrev pub HoldValues : Rules → List Update → Type 0
HoldValues r updates = All (λ u. r.is_value u.value ≡ true) updates

-- update k is the last one of the cell among the first n
pub record IsLastOf (updates : List Update) (n its_cell k : ℕ) : Type 0 where
  pub below : k < n
  pub cell : (update_at updates k).cell ≡ its_cell
  pub last : (j : ℕ) → k < j → j < n → (update_at updates j).cell ≢ its_cell
