-- The report of a capture's epochs: what was read, what the Count Sketch of each epoch says, and the table of all packets.
use Rattle.std.specs.Prelude.{◌≡◌, ℕ, List, length, map}
use Rattle.hash_rows.specs.declared.options.Options.{Options}
use Rattle.hash_rows.specs.declared.shape.Packet.{Packet}
use Rattle.hash_rows.specs.declared.shape.Tallies.{Tallies}
use Rattle.hash_rows.specs.Amounts.{total_amount}
use Rattle.hash_rows.specs.Sketches.{rows_of}
use Rattle.hash_rows.specs.Tables.{used_in}
use Rattle.epoch_run.specs.Epochs.{AreEpochs, epoch_count, sketch_table}
use Rattle.epoch_report.specs.declared.report.EpochReport.{EpochReport}

-- the report tells what was read, each epoch by its own packets and those of the epoch before, and what the table of all packets says
pub record IsEpochReport (packets : List Packet) (records : ℕ) (skipped : Tallies) (cut size change : ℕ) (o : Options)
    (r : EpochReport) : Type 0 where
  pub shape : r.shape ≡ o.shape
  pub amount : r.amount ≡ o.amount
  pub records_are : r.records ≡ records
  pub keyed : r.keyed ≡ length packets
  pub skipped_are : r.skipped ≡ skipped
  pub cut_is : r.cut ≡ cut
  pub epochs_are : AreEpochs size change o packets (epoch_count size packets) r.epochs.items
  pub total : r.total ≡ total_amount packets
  pub used : r.used.items ≡ map (used_in (sketch_table o.shape packets)) (rows_of o.shape)
