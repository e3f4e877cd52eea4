-- The tables of single epochs.
use Rattle.std.proofs.Common.{◌≡◌, ◌<◌, ◌≤◌, ◌*◌, ◌^◌, ℕ, zero, suc, List, [], length, drop, All, sym, subst, arith}
use Rattle.std.specs.Int.{div_ceil}
use Rattle.std.proofs.lemmas.Grind.{div_ceil_times}
use Rattle.std.proofs.lemmas.List.{length-take}
use Rattle.std.proofs.lemmas.List.Elements.{All-drop, All-take}
use Rattle.std.proofs.Math.Nat.{mul-le-mul_right, suc-mul}
use Rattle.hash_rows.specs.declared.shape.Packet.{Packet}
use Rattle.hash_rows.specs.declared.shape.Shape.{Shape}
use Rattle.hash_rows.specs.Tables.{TableView}
use Rattle.epoch_run.specs.Changes.{AreWithin}
use Rattle.epoch_run.specs.Epochs.{epoch_count, epoch_packets, sketch_table}
use Rattle.epoch_run.specs.Places.{packets_before}
use Rattle.epoch_run.proofs.Bounds.{table_within}

pub epoch_few : (size : ℕ) (packets : List Packet) (e : ℕ) → length (epoch_packets size packets e) ≤ size
unfolding epoch_packets
epoch_few size packets e = omega (arith, length-take size (drop (e * size) packets))

epoch_small : (size : ℕ) (packets : List Packet) (e : ℕ) → All (λ p. p.amount < 2 ^ 32) packets → All (λ p. p.amount < 2 ^ 32) (epoch_packets size packets e)
unfolding epoch_packets
epoch_small size packets e small = All-take (λ p. p.amount < 2 ^ 32) size (drop (e * size) packets) (All-drop (λ p. p.amount < 2 ^ 32) (e * size) packets small)

pub epoch_within : (shape : Shape) (size : ℕ) (packets : List Packet) (e : ℕ) (table : TableView) → shape.rows ≤ 8 → size ≤ 16777216 → All (λ p. p.amount < 2 ^ 32) packets
    → table ≡ sketch_table shape (epoch_packets size packets e) → AreWithin (2 ^ 60) table
epoch_within shape size packets e table rows few small is =
    subst (AreWithin (2 ^ 60)) (sym is)
    (table_within shape (epoch_packets size packets e) rows (epoch_small size packets e small) (omega (arith, few, epoch_few size packets e)))

pub before_within : (shape : Shape) (size : ℕ) (packets : List Packet) (e : ℕ) (table : TableView) → shape.rows ≤ 8 → size ≤ 16777216 → All (λ p. p.amount < 2 ^ 32) packets
    → table ≡ sketch_table shape (packets_before size packets e) → AreWithin (2 ^ 60) table
before_within shape size packets zero table rows few small is =
    subst (AreWithin (2 ^ 60)) (sym is) (table_within shape [] rows (λ k d lt. absurd (omega (arith, lt))) (omega arith))
before_within shape size packets (suc e) table rows few small is = epoch_within shape size packets e table rows few small is

-- each of the epochs begins before the last packet
pub begins : (size : ℕ) (packets : List Packet) (e : ℕ) → 1 ≤ size → e < epoch_count size packets → e * size < length packets
unfolding epoch_count
begins size packets e some within =
    let count : ℕ = div_ceil (length packets) size in
    let times = div_ceil_times (length packets) size some in
    let next : suc e * size ≤ count * size = mul-le-mul_right size (omega (arith, within)) in
    omega (arith, times.1, next, suc-mul e size)
