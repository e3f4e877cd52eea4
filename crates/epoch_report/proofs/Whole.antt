-- The table of all packets.
use Rattle.std.proofs.Common.{◌≡◌, ◌∙◌, List, map, refl, ap}
use Rattle.hash_rows.specs.declared.shape.Packet.{Packet}
use Rattle.hash_rows.specs.declared.shape.Shape.{Shape}
use Rattle.hash_rows.specs.Sequential.{sequential_table}
use Rattle.hash_rows.specs.Sketches.{rows_of}
use Rattle.hash_rows.specs.Tables.{TableView, used_in}
use Rattle.epoch_run.specs.Epochs.{sketch_table}

its_shape : (shape : Shape) (packets : List Packet) → (sketch_table shape packets).shape ≡ shape
unfolding sketch_table sequential_table
its_shape shape packets = refl

pub used_of_whole : (shape : Shape) (packets : List Packet) (whole : TableView) → whole ≡ sketch_table shape packets
    → map (used_in whole) (rows_of whole.shape) ≡ map (used_in (sketch_table shape packets)) (rows_of shape)
used_of_whole shape packets whole is =
    ap (λ (t : TableView). map (used_in t) (rows_of t.shape)) is ∙ ap (λ (s : Shape). map (used_in (sketch_table shape packets)) (rows_of s)) (its_shape shape packets)
