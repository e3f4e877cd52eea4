-- Epochs of packets, each with a table of its own, and what changed from each to the next.
use Rattle.std.specs.Prelude.{◌≡◌, ◌<◌, ◌≤◌, ℕ, zero, suc, ◌*◌, List, [], ◌++◌, length, map, take, drop, slice_index_or}
use Rattle.std.specs.Int.{div_ceil}
use Rattle.std.specs.List.{range_with_len}
use Rattle.hash_rows.specs.declared.options.Options.{Options}
use Rattle.hash_rows.specs.declared.options.Sketch.TheVariants.{CountSketch}
use Rattle.hash_rows.specs.declared.shape.Packet.{Packet}
use Rattle.hash_rows.specs.declared.shape.Shape.{Shape}
use Rattle.hash_rows.specs.Amounts.{total_amount}
use Rattle.hash_rows.specs.Lawful.{IsLawful}
use Rattle.hash_rows.specs.Limits.{most_records}
use Rattle.hash_rows.specs.Rules.{rules_of}
use Rattle.hash_rows.specs.Sequential.{joined_of, sequential_table}
use Rattle.hash_rows.specs.Shapes.{size_of}
use Rattle.hash_rows.specs.Sketches.{rows_of}
use Rattle.hash_rows.specs.Tables.{TableView, used_in, value_at}
use Rattle.heavy_keys.specs.FinalHeavy.{AreHeaviest}
use Rattle.epoch_run.specs.declared.change.Change.{Change}
use Rattle.epoch_run.specs.declared.epoch.Epoch.{Epoch}
use Rattle.epoch_run.specs.Changes.{AreGreatest, estimates_of, packet_keys}

-- lawful options of a Count Sketch without readers; 256 to 16,777,216 packets an epoch; a change of 1 to 2 ^ 40
pub record IsEpochsRun (size change : ℕ) (o : Options) : Type 0 where
  pub lawful : IsLawful o
  pub sketch : o.sketch ≡ CountSketch
  pub readers : o.readers ≡ 0
  pub some_packets : 256 ≤ size
  pub packets : size ≤ most_records
  pub some_change : 1 ≤ change
  pub most_change : change ≤ 1099511627776

-- epoch e: the packets from e * size up to below (e + 1) * size, the last one perhaps fewer
unfoldable pub epoch_packets : ℕ → List Packet → ℕ → List Packet
epoch_packets size packets e = take size (drop (e * size) packets)

-- how many epochs there are: without a packet there is none
unfoldable pub epoch_count : ℕ → List Packet → ℕ
epoch_count size packets = div_ceil (length packets) size

-- the one Count Sketch that takes each of these packets
unfoldable pub sketch_table : Shape → List Packet → TableView
sketch_table shape packets = sequential_table (rules_of CountSketch) shape packets

-- what changed from the epoch before to the next, with these packets each
abbrev pub HasChanged : ℕ → Options → List Packet → List Packet → ℕ → List Change → Type 0
HasChanged change o before here changed changes =
    AreGreatest (estimates_of (sketch_table o.shape before)) (estimates_of (sketch_table o.shape here)) change
    (packet_keys (before ++ here)) o.heavy changed changes

-- the changes of epoch e: before the first epoch there is none to compare it with
abbrev pub HasChanges : ℕ → ℕ → Options → List Packet → ℕ → ℕ → List Change → Type 0
HasChanges size change o packets zero changed changes = (changed ≡ 0) × (changes ≡ [])
HasChanges size change o packets (suc e) changed changes = HasChanged change o (epoch_packets size packets e)
    (epoch_packets size packets (suc e)) changed changes

-- what the table of these packets says of them
pub record IsSettled (o : Options) (here : List Packet) (epoch : Epoch) : Type 0 where
  pub packets_are : epoch.packets ≡ length here
  pub total : epoch.total ≡ total_amount here
  pub used : epoch.used.items ≡ map (used_in (sketch_table o.shape here)) (rows_of o.shape)
  pub heavy : AreHeaviest (estimates_of (sketch_table o.shape here)) o.least (packet_keys here) o.heavy epoch.heavy epoch.flows.items

-- epoch e, by its own packets and those of the epoch before
pub record IsEpoch (size change : ℕ) (o : Options) (packets : List Packet) (e : ℕ) (epoch : Epoch) : Type 0 where
  pub settled : IsSettled o (epoch_packets size packets e) epoch
  pub changes : HasChanges size change o packets e epoch.changed epoch.changes.items

-- the first epochs, so many
pub record AreEpochs (size change : ℕ) (o : Options) (packets : List Packet) (count : ℕ) (epochs : List Epoch) : Type 0 where
  pub len : length epochs ≡ count
  pub each : (e : ℕ) (d : Epoch) → e < count → IsEpoch size change o packets e (slice_index_or epochs e d)

-- cell by cell, the table is the join of the epochs' tables
abbrev pub IsJoined : ℕ → Shape → List Packet → TableView → Type 0
IsJoined size shape packets whole =
    (cell : ℕ) → cell < size_of shape → value_at whole.cells cell
    ≡ joined_of (rules_of CountSketch) (map (λ e. value_at (sketch_table shape (epoch_packets size packets e)).cells cell)
    (range_with_len 0 (epoch_count size packets)))

-- all epochs, and the table of all packets, which is the join of the epochs' tables
pub record IsEpochs (size change : ℕ) (o : Options) (packets : List Packet) (epochs : List Epoch) (whole : TableView) : Type 0 where
  pub are_epochs : AreEpochs size change o packets (epoch_count size packets) epochs
  pub whole_is : whole ≡ sketch_table o.shape packets
  pub joined : IsJoined size o.shape packets whole
