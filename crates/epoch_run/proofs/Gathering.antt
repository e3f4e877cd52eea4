-- One epoch after another.
use Rattle.std.proofs.Common.{◌≡◌, ◌∙◌, ◌+◌, ℕ, List, [], ◌∷◌, ◌++◌, length, add-one, ap, sym, arith}
use Rattle.std.proofs.lemmas.List.{length-append}
use Rattle.hash_rows.specs.declared.options.Options.{Options}
use Rattle.hash_rows.specs.declared.options.Sketch.TheVariants.{CountSketch}
use Rattle.hash_rows.specs.declared.shape.Packet.{Packet}
use Rattle.hash_rows.specs.declared.shape.Shape.{Shape}
use Rattle.hash_rows.specs.Rules.{rules_of}
use Rattle.hash_rows.specs.Sequential.{sequential_table}
use Rattle.hash_rows.specs.Tables.{TableView}
use Rattle.octo_engine.proofs.Beginning.{grown}
use Rattle.epoch_run.specs.declared.epoch.Epoch.{Epoch}
use Rattle.epoch_run.specs.Epochs.{AreEpochs, IsEpoch, epoch_packets, sketch_table}
use Rattle.epoch_run.specs.Places.{packets_before}

pub no_epochs : (size change : ℕ) (o : Options) (packets : List Packet) (epochs : List Epoch) → epochs ≡ [] → AreEpochs size change o packets 0 epochs
no_epochs size change o packets epochs none = record { len = ap length none; each = λ e d lt. absurd (omega (arith, lt)) }

pub epochs_more : (size change : ℕ) (o : Options) (packets : List Packet) (count : ℕ) (epochs new : List Epoch) (epoch : Epoch) → AreEpochs size change o packets count epochs
    → new ≡ epochs ++ epoch ∷ [] → IsEpoch size change o packets count epoch → AreEpochs size change o packets (count + 1) new
epochs_more size change o packets count epochs new epoch h is one = record {
  len = ap length is ∙ length-append epochs (epoch ∷ []) ∙ ap (λ k. k + 1) h.len;
  each = grown (IsEpoch size change o packets) epochs new count epoch h.len is h.each one;
}

pub sketch_is : (shape : Shape) (packets : List Packet) (table : TableView) → table ≡ sequential_table (rules_of CountSketch) shape packets → table ≡ sketch_table shape packets
unfolding sketch_table
sketch_is shape packets table is = is

pub shape_is : (shape : Shape) (packets : List Packet) (table : TableView) → table ≡ sketch_table shape packets → table.shape ≡ shape
unfolding sketch_table sequential_table
shape_is shape packets table is = ap (λ (t : TableView). t.shape) is

-- the table of an epoch is that before the next
pub before_next : (shape : Shape) (size : ℕ) (packets : List Packet) (e : ℕ) (table : TableView) → table ≡ sketch_table shape (epoch_packets size packets e)
    → table ≡ sketch_table shape (packets_before size packets (e + 1))
before_next shape size packets e table is = is ∙ ap (λ k. sketch_table shape (packets_before size packets k)) (sym (add-one e))

-- the same, by the table's own shape
pub own_shape : (shape : Shape) (packets : List Packet) (table : TableView) → table ≡ sketch_table shape packets → table ≡ sketch_table table.shape packets
own_shape shape packets table is = is ∙ ap (λ (s : Shape). sketch_table s packets) (sym (shape_is shape packets table is))

-- the table of an epoch, from that of no packet
pub filled : (shape : Shape) (before table : TableView) (packets here : List Packet) → before ≡ sketch_table shape [] → table ≡ sketch_table before.shape packets → packets ≡ here
    → table ≡ sketch_table shape here
filled shape before table packets here none is same =
    is ∙ ap (λ (s : Shape). sketch_table s packets) (shape_is shape [] before none) ∙ ap (sketch_table shape) same
