-- The table of all packets as the join of the epochs' tables.
use Rattle.std.proofs.Common.{◌≡◌, ◌∙◌, ◌<◌, ◌≤◌, ◌*◌, ◌^◌, ◌==◌, ℕ, ℤ, zero, suc, pos, true, List, [], ◌∷◌, ◌++◌, length, map, take, drop, get_or, All, add-one, sym, ap, ap₂, arith}
use Rattle.std.specs.Prelude.{filter}
use Rattle.std.specs.Int.{div_ceil}
use Rattle.std.specs.List.{flat_map, range_with_len}
use Rattle.std.proofs.lemmas.Grind.{div_ceil_times, flat_map-append}
use Rattle.std.proofs.lemmas.List.{take_all}
use Rattle.std.proofs.lemmas.List.Elements.{All-append, All-drop, All-head, All-map, All-nil, All-tail, All-take}
use Rattle.std.proofs.lemmas.List.FromFn.{get_or-map-range_with_len, map-range_with_len_more}
use Rattle.std.proofs.lemmas.List.Sums.{fold_push}
use Rattle.std.proofs.Math.Nat.{suc-mul}
use Rattle.std.proofs.Math.Seq.{take-add}
use Rattle.hash_rows.specs.declared.options.Sketch.TheVariants.{CountSketch}
use Rattle.hash_rows.specs.declared.shape.Packet.{Packet}
use Rattle.hash_rows.specs.declared.shape.Shape.{Shape}
use Rattle.hash_rows.specs.Rules.{AreValues, Rules, rules_of}
use Rattle.hash_rows.specs.Sequential.{cell_values, joined_of, packet_values, sequential, sequential_table}
use Rattle.hash_rows.specs.Shapes.{cell_of, size_of}
use Rattle.hash_rows.specs.Sketches.{is_sum, rows_of, sum_join}
use Rattle.hash_rows.specs.Tables.{TableView, value_at}
use Rattle.hash_rows.proofs.SumLaws.{count_sketch_lawful}
use Rattle.push_history.proofs.Parts.{joined_append}
use Rattle.epoch_run.specs.Epochs.{IsJoined, epoch_count, epoch_packets, sketch_table}

-- what a cell holds of some packets
held : Shape → ℕ → List Packet → ℤ
held shape cell packets = value_at (sketch_table shape packets).cells cell

held_is : (shape : Shape) (cell : ℕ) (packets : List Packet) → cell < size_of shape → held shape cell packets ≡ joined_of (rules_of CountSketch) (cell_values (rules_of CountSketch) shape packets cell)
unfolding held sketch_table sequential_table sequential
held_is shape cell packets within = get_or-map-range_with_len (sequential (rules_of CountSketch) shape packets) 0 (size_of shape) cell cell (pos 0) within (omega arith)

cells_are_values : (shape : Shape) (cell : ℕ) (packets : List Packet) → All (λ p. p.amount < 2 ^ 32) packets → AreValues (rules_of CountSketch) (cell_values (rules_of CountSketch) shape packets cell)
unfolding cell_values packet_values
cells_are_values shape cell [] small = All-nil (λ y. is_sum y ≡ true)
cells_are_values shape cell (packet ∷ packets) small =
    let rules : Rules = rules_of CountSketch in
    let here = All-head (λ p. p.amount < 2 ^ 32) packet packets small in
    let rest = All-tail (λ p. p.amount < 2 ^ 32) packet packets small in
    let rows : List ℕ = filter (λ row. cell_of shape packet.key row == cell) (rows_of shape) in
    All-append (λ y. is_sum y ≡ true) (packet_values rules shape cell packet) (flat_map (packet_values rules shape cell) packets)
    (All-map (λ y. is_sum y ≡ true) (rules.value shape packet) rows (λ k d lt. count_sketch_lawful.packet_value shape packet (get_or rows k d) here))
    (cells_are_values shape cell packets rest)

held_append : (shape : Shape) (cell : ℕ) (xs ys : List Packet) → cell < size_of shape → All (λ p. p.amount < 2 ^ 32) xs → All (λ p. p.amount < 2 ^ 32) ys
    → held shape cell (xs ++ ys) ≡ sum_join (held shape cell xs) (held shape cell ys)
unfolding cell_values
held_append shape cell xs ys within first second =
    let rules : Rules = rules_of CountSketch in
    held_is shape cell (xs ++ ys) within
    ∙ ap (joined_of rules) (flat_map-append (packet_values rules shape cell) xs ys)
    ∙ joined_append rules count_sketch_lawful (cell_values rules shape xs cell) (cell_values rules shape ys cell) (cells_are_values shape cell xs first) (cells_are_values shape cell ys second)
    ∙ ap₂ sum_join (sym (held_is shape cell xs within)) (sym (held_is shape cell ys within))

held_none : (shape : Shape) (cell : ℕ) → cell < size_of shape → held shape cell [] ≡ pos 0
unfolding cell_values
held_none shape cell within = held_is shape cell [] within

-- the first epochs
first_joined : (size : ℕ) (shape : Shape) (packets : List Packet) → All (λ p. p.amount < 2 ^ 32) packets → (cell : ℕ) → cell < size_of shape → (k : ℕ)
    → held shape cell (take (k * size) packets) ≡ joined_of (rules_of CountSketch) (map (λ e. held shape cell (epoch_packets size packets e)) (range_with_len 0 k))
unfolding epoch_packets
first_joined size shape packets small cell within zero =
    let none : 0 * size ≡ 0 = omega arith in
    ap (λ n. held shape cell (take n packets)) none ∙ held_none shape cell within
first_joined size shape packets small cell within (suc k) =
    let each : ℕ → ℤ = λ e. held shape cell (epoch_packets size packets e) in
    let front : List Packet = take (k * size) packets in
    ap (λ n. held shape cell (take n packets)) (suc-mul k size)
    ∙ ap (held shape cell) (take-add (k * size) size packets)
    ∙ held_append shape cell front (epoch_packets size packets k) within (All-take (λ p. p.amount < 2 ^ 32) (k * size) packets small)
    (All-take (λ p. p.amount < 2 ^ 32) size (drop (k * size) packets) (All-drop (λ p. p.amount < 2 ^ 32) (k * size) packets small))
    ∙ ap (λ z. sum_join z (each k)) (first_joined size shape packets small cell within k)
    ∙ sym (fold_push sum_join (pos 0) (map each (range_with_len 0 k)) (each k))
    ∙ sym (ap (joined_of (rules_of CountSketch)) (map-range_with_len_more each 0 k k (omega arith)))
    ∙ ap (λ n. joined_of (rules_of CountSketch) (map each (range_with_len 0 n))) (add-one k)

pub whole_joined : (size : ℕ) (shape : Shape) (packets : List Packet) (whole : TableView) → 1 ≤ size → All (λ p. p.amount < 2 ^ 32) packets → whole ≡ sketch_table shape packets → IsJoined size shape packets whole
unfolding held epoch_count
whole_joined size shape packets whole some small is = λ cell within.
    let count : ℕ = div_ceil (length packets) size in
    let all : take (count * size) packets ≡ packets = take_all (count * size) packets (div_ceil_times (length packets) size some).0 in
    ap (λ (t : TableView). value_at t.cells cell) is ∙ ap (held shape cell) (sym all) ∙ first_joined size shape packets small cell within count
