-- How far from 0 cells and estimates are.
use Rattle.std.proofs.Common.{◌≡◌, ◌∙◌, ◌<◌, ◌≤◌, ◌+◌, ◌-◌, ◌*◌, ◌/◌, ◌^◌, ◌==◌, ℕ, ℤ, zero, suc, pos, negsuc, ◌+ℤ◌, ◌-ℤ◌, Bool, true, false, if◌then◌else◌, List, [], ◌∷◌, length, map, fold, get_or, refl, sym, subst, arith, All}
use Rattle.std.specs.Prelude.{filter, unsigned_abs, int_lt, nat_lt, neg_ℤ}
use Rattle.std.specs.Int.{int_wrapping_neg, w64}
use Rattle.std.specs.List.{flat_map, range_with_len, AllByRecursion}
use Rattle.std.proofs.lemmas.Int.{fits_signed_from_abs, int_wrap_fits, ints, wrapping_add_is, wrapping_neg_is}
use Rattle.std.proofs.lemmas.List.{get_or_past}
use Rattle.std.proofs.lemmas.List.Elements.{All-map}
use Rattle.std.proofs.lemmas.List.FromFn.{length-range_with_len}
use Rattle.std.proofs.lemmas.List.Sums.{fold-append}
use Rattle.packet_key.specs.declared.key.FlowKey.{FlowKey}
use Rattle.hash_rows.specs.declared.options.Sketch.TheVariants.{CountSketch}
use Rattle.hash_rows.specs.declared.shape.Packet.{Packet}
use Rattle.hash_rows.specs.declared.shape.Shape.{Shape}
use Rattle.hash_rows.specs.Hash.{row_hash_of}
use Rattle.hash_rows.specs.Rules.{rules_of}
use Rattle.hash_rows.specs.Sequential.{cell_values, packet_values, sequential, sequential_table}
use Rattle.hash_rows.specs.Shapes.{cell_of, size_of}
use Rattle.hash_rows.specs.Sketches.{count_sketch_estimate, count_sketch_value, inserted, lower_median_of, rows_of, signed_cells, signed_in_row, sorted_of, sum_join}
use Rattle.hash_rows.specs.Tables.{TableView, value_at}
use Rattle.epoch_run.specs.Changes.{AreWithin, estimates_of}
use Rattle.epoch_run.specs.Epochs.{sketch_table}

-- at most so far from 0
abbrev pub IsWithin : ℕ → ℤ → Type 0
IsWithin most a = unsigned_abs a ≤ most

sum_within : (a b : ℤ) (m n : ℕ) → IsWithin m a → IsWithin n b → IsWithin (m + n) (a +ℤ b)
sum_within (pos a) (pos b) m n p q = omega (arith, ints, p, q)
sum_within (pos a) (negsuc b) m n p q = omega (arith, ints, p, q)
sum_within (negsuc a) (pos b) m n p q = omega (arith, ints, p, q)
sum_within (negsuc a) (negsuc b) m n p q = omega (arith, ints, p, q)

pub difference_within : (a b : ℤ) (m : ℕ) → IsWithin m a → IsWithin m b → IsWithin (m + m) (a -ℤ b)
difference_within (pos a) (pos b) m p q = omega (arith, ints, p, q)
difference_within (pos a) (negsuc b) m p q = omega (arith, ints, p, q)
difference_within (negsuc a) (pos b) m p q = omega (arith, ints, p, q)
difference_within (negsuc a) (negsuc b) m p q = omega (arith, ints, p, q)

-- a number with the sign of a row
signed_within : (key : FlowKey) (row : ℕ) (a : ℤ) (m : ℕ) → m < 2 ^ 63 → IsWithin m a → IsWithin m (signed_in_row key row a)
signed_within key row a m fits p = by_test (nat_lt (row_hash_of key row) (2 ^ 63)) where
  negated : (b : ℤ) → IsWithin m b → IsWithin m (neg_ℤ b)
  negated (pos zero) q = q
  negated (pos (suc n)) q = q
  negated (negsuc n) q = q

  by_test : (b : Bool) → IsWithin m (if b then a else int_wrapping_neg w64 a)
  by_test true = p
  by_test false =
      let is : int_wrapping_neg w64 a ≡ neg_ℤ a = wrapping_neg_is w64 a (fits_signed_from_abs w64 a (omega (arith, p, fits)))
      ∙ int_wrap_fits w64 (neg_ℤ a) (fits_signed_from_abs w64 (neg_ℤ a) (omega (arith, negated a p, fits))) in
      subst (IsWithin m) (sym is) (negated a p)

-- numbers in rising order
all_inserted : (m : ℕ) (x : ℤ) (ys : List ℤ) → IsWithin m x → AllByRecursion (IsWithin m) ys → AllByRecursion (IsWithin m) (inserted x ys)
all_inserted m x [] here all = (here, tt)
all_inserted m x (y ∷ ys) here all = by_test (int_lt y x) (all_inserted m x ys here all.1) where
  by_test : (test : Bool) → AllByRecursion (IsWithin m) (inserted x ys) → AllByRecursion (IsWithin m) (if test then y ∷ inserted x ys else x ∷ y ∷ ys)
  by_test true more = (all.0, more)
  by_test false more = (here, all)

all_sorted : (m : ℕ) (xs : List ℤ) → AllByRecursion (IsWithin m) xs → AllByRecursion (IsWithin m) (sorted_of xs)
all_sorted m [] all = tt
all_sorted m (x ∷ xs) all = all_inserted m x (sorted_of xs) all.0 (all_sorted m xs all.1)

at_place : (m : ℕ) (xs : List ℤ) (k : ℕ) → AllByRecursion (IsWithin m) xs → IsWithin m (get_or xs k (pos 0))
at_place m [] k all = omega arith
at_place m (x ∷ xs) zero all = all.0
at_place m (x ∷ xs) (suc k) all = at_place m xs k all.1

all_mapped : (m : ℕ) (f : ℕ → ℤ) → ((k : ℕ) → IsWithin m (f k)) → (ks : List ℕ) → AllByRecursion (IsWithin m) (map f ks)
all_mapped m f each [] = tt
all_mapped m f each (k ∷ ks) = (each k, all_mapped m f each ks)

cell_within : (m : ℕ) (cells : List ℤ) (cell : ℕ) → All (IsWithin m) cells → IsWithin m (value_at cells cell)
cell_within m cells cell all = by_test (nat_lt cell (length cells)) refl where
  by_test : (b : Bool) → nat_lt cell (length cells) ≡ b → IsWithin m (value_at cells cell)
  by_test true there = let lt : cell < length cells = grind arith in all cell (pos 0) lt
  by_test false past =
      let le : length cells ≤ cell = grind arith in
      subst (IsWithin m) (sym (get_or_past cells cell (pos 0) le)) (omega arith)

-- what a table says of a key is no farther from 0 than its cells
pub estimate_within : (table : TableView) (m : ℕ) → m < 2 ^ 63 → AreWithin m table → (key : FlowKey) → IsWithin m (estimates_of table key)
unfolding count_sketch_estimate signed_cells lower_median_of
estimate_within table m fits all key =
    let cells = signed_cells table.shape table.cells key in
    at_place m (sorted_of cells) ((length cells - 1) / 2)
    (all_sorted m cells (all_mapped m (λ row. signed_in_row key row (value_at table.cells (cell_of table.shape key row)))
    (λ row. signed_within key row _ m fits (cell_within m table.cells (cell_of table.shape key row) all)) (rows_of table.shape)))

-- the sum of some values
join_within : (a b : ℤ) (m n : ℕ) → IsWithin m a → IsWithin n b → m + n < 2 ^ 63 → IsWithin (m + n) (sum_join a b)
join_within a b m n p q fits =
    let sum = sum_within a b m n p q in
    let is : sum_join a b ≡ a +ℤ b = wrapping_add_is w64 a b (fits_signed_from_abs w64 a (omega (arith, p, fits))) (fits_signed_from_abs w64 b (omega (arith, q, fits)))
    ∙ int_wrap_fits w64 (a +ℤ b) (fits_signed_from_abs w64 (a +ℤ b) (omega (arith, sum, fits))) in
    subst (IsWithin (m + n)) (sym is) sum

-- what a packet adds
value_within : (shape : Shape) (packet : Packet) (row : ℕ) → packet.amount < 2 ^ 32 → IsWithin 4294967295 (count_sketch_value shape packet row)
value_within shape packet row small = signed_within packet.key row (pos packet.amount) 4294967295 (omega arith) (omega (arith, small))

-- a cell after the values of some rows of a packet
rows_within : (shape : Shape) (packet : Packet) (p : ℕ → Bool) → packet.amount < 2 ^ 32 → (a : ℤ) (m : ℕ) → IsWithin m a → (rows : List ℕ) → m + length rows * 4294967295 < 2 ^ 63
    → IsWithin (m + length rows * 4294967295) (fold sum_join a (map (count_sketch_value shape packet) (filter p rows)))
rows_within shape packet p small a m within [] fits = omega (arith, within)
rows_within shape packet p small a m within (row ∷ rows) fits =
    by_test (p row) (λ x n reach less. rows_within shape packet p small x n reach rows less) where
      by_test : (b : Bool) → ((x : ℤ) (n : ℕ) → IsWithin n x → n + length rows * 4294967295 < 2 ^ 63
          → IsWithin (n + length rows * 4294967295) (fold sum_join x (map (count_sketch_value shape packet) (filter p rows))))
          → IsWithin (m + length (row ∷ rows) * 4294967295) (fold sum_join a (map (count_sketch_value shape packet) (if b then row ∷ filter p rows else filter p rows)))
      by_test true rest =
          let first = join_within a (count_sketch_value shape packet row) m 4294967295 within (value_within shape packet row small) (omega (arith, fits)) in
          let all = rest (sum_join a (count_sketch_value shape packet row)) (m + 4294967295) first (omega (arith, fits)) in
          omega (arith, all)
      by_test false rest =
          let all = rest a m within (omega (arith, fits)) in
          omega (arith, all)

-- a cell after all values of some packets
packets_within : (shape : Shape) (cell : ℕ) → shape.rows ≤ 8 → (a : ℤ) (m : ℕ) → IsWithin m a → (packets : List Packet) → AllByRecursion (λ p. p.amount < 2 ^ 32) packets
    → m + length packets * 34359738360 < 2 ^ 63
    → IsWithin (m + length packets * 34359738360) (fold sum_join a (flat_map (packet_values (rules_of CountSketch) shape cell) packets))
unfolding packet_values
packets_within shape cell rows a m within [] small fits = omega (arith, within)
packets_within shape cell rows a m within (packet ∷ packets) small fits =
    let values : Packet → List ℤ = packet_values (rules_of CountSketch) shape cell in
    let len : length (rows_of shape) ≡ shape.rows = length-range_with_len 0 shape.rows in
    let times : length (rows_of shape) * 4294967295 ≤ 34359738360 = omega (arith, len, rows) in
    let first = rows_within shape packet (λ row. cell_of shape packet.key row == cell) small.0 a m within (rows_of shape) (omega (arith, times, fits)) in
    let here : IsWithin (m + 34359738360) (fold sum_join a (values packet)) = omega (arith, first, times) in
    let rest = packets_within shape cell rows (fold sum_join a (values packet)) (m + 34359738360) here packets small.1 (omega (arith, fits)) in
    let all : IsWithin (m + length (packet ∷ packets) * 34359738360) (fold sum_join (fold sum_join a (values packet)) (flat_map values packets)) = omega (arith, rest) in
    subst (IsWithin (m + length (packet ∷ packets) * 34359738360)) (sym (fold-append sum_join a (values packet) (flat_map values packets))) all

small_each : (packets : List Packet) → All (λ p. p.amount < 2 ^ 32) packets → AllByRecursion (λ p. p.amount < 2 ^ 32) packets
small_each [] small = tt
small_each (packet ∷ packets) small = (small 0 packet (omega arith), small_each packets (λ k d lt. small (suc k) d (omega (arith, lt))))

-- a cell of few packets
few_within : (shape : Shape) (packets : List Packet) → shape.rows ≤ 8 → All (λ p. p.amount < 2 ^ 32) packets → length packets ≤ 16777216
    → (cell : ℕ) → IsWithin (2 ^ 60) (sequential (rules_of CountSketch) shape packets cell)
unfolding sequential cell_values
few_within shape packets rows small few cell =
    let reach = packets_within shape cell rows (pos 0) 0 (omega arith) packets (small_each packets small) (omega (arith, few)) in
    omega (arith, reach, few)

-- the table of few packets
pub table_within : (shape : Shape) (packets : List Packet) → shape.rows ≤ 8 → All (λ p. p.amount < 2 ^ 32) packets → length packets ≤ 16777216 → AreWithin (2 ^ 60) (sketch_table shape packets)
unfolding sketch_table sequential_table
table_within shape packets rows small few =
    All-map (IsWithin (2 ^ 60)) (sequential (rules_of CountSketch) shape packets) (range_with_len 0 (size_of shape))
    (λ k d lt. few_within shape packets rows small few (get_or (range_with_len 0 (size_of shape)) k d))
