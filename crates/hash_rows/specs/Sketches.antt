-- The three sketches: what a cell joins, what a packet adds to it, and what the cells say of a key.
-- Count-Min: Cormode, Muthukrishnan (2005). Count Sketch: Charikar, Chen, Farach-Colton (2002). LogLog: Durand, Flajolet (2003), with the
-- estimates of HyperLogLog: Flajolet, Fusy, Gandouet, Meunier (2007).
use Rattle.std.specs.Prelude.{ℕ, ◌+◌, ◌-◌, ◌*◌, ◌/◌, ◌^◌, ◌==◌, ◌&&◌, ℤ, pos, negsuc, ◌-ℤ◌, Bool, List, [], ◌∷◌, length, map, fold, sum, sum_by, count_by, min, nat_lt, nat_le, if◌then◌else◌, slice_index_or, unsigned_abs, Option, Some, None, int_lt, int_le}
use Rattle.std.specs.Int.{int_max, int_min, int_wrapping_add, int_wrapping_sub, int_wrapping_neg, trailing_zeros, w64}
use Rattle.std.specs.List.{range_with_len}
use Rattle.std.specs.Ordering.{int_eq}
use Rattle.packet_key.specs.declared.key.FlowKey.{FlowKey}
use Rattle.hash_rows.specs.declared.shape.Shape.{Shape}
use Rattle.hash_rows.specs.declared.shape.Packet.{Packet}
use Rattle.hash_rows.specs.Hash.{row_hash_of}
use Rattle.hash_rows.specs.Shapes.{cell_of}
use Rattle.hash_rows.specs.Tables.{value_at}

-- Count-Min and Count Sketch join by sums modulo 2 ^ 64.

-- a number of 64 bits with sign
abbrev pub is_sum : ℤ → Bool
is_sum a = int_le (negsuc 9223372036854775807) a && int_le a (pos 9223372036854775807)

-- the sum
abbrev pub sum_join : ℤ → ℤ → ℤ
sum_join a b = int_wrapping_add w64 a b

-- what is to be added to `told`, so that it is `whole`
abbrev pub sum_gap : ℤ → ℤ → ℤ
sum_gap told whole = int_wrapping_sub w64 whole told

-- how large that is
abbrev pub sum_distance : ℤ → ℤ → ℕ
sum_distance told whole = unsigned_abs (sum_gap told whole)

-- a gap in one byte, where it is from -127 to 127
abbrev pub small_gap : ℤ → Option ℤ
small_gap gap = if nat_le (unsigned_abs gap) 127 then Some gap else None

-- the gap of two sums in one byte, where it fits
abbrev pub sum_small : ℤ → ℤ → Option ℤ
sum_small told whole = small_gap (sum_gap told whole)

-- what the packet adds to its cells of a Count-Min
abbrev pub count_min_value : Shape → Packet → ℕ → ℤ
count_min_value shape packet row = pos packet.amount

-- the number with the sign of a row: negative where the top bit of the row hash is 1
abbrev pub signed_in_row : FlowKey → ℕ → ℤ → ℤ
signed_in_row key row a = if nat_lt (row_hash_of key row) (2 ^ 63) then a else int_wrapping_neg w64 a

-- what the packet adds to its cell of a Count Sketch: its amount, with the sign of the row
abbrev pub count_sketch_value : Shape → Packet → ℕ → ℤ
count_sketch_value shape packet row = signed_in_row packet.key row (pos packet.amount)

-- the rows of a shape
abbrev pub rows_of : Shape → List ℕ
rows_of shape = range_with_len 0 shape.rows

-- the key's cell in each row
unfoldable pub key_cells : Shape → List ℤ → FlowKey → List ℤ
key_cells shape cells key = map (λ row. value_at cells (cell_of shape key row)) (rows_of shape)

-- the least of some numbers
abbrev pub least_of : List ℤ → ℤ
least_of [] = pos 0
least_of (x ∷ xs) = fold int_min x xs

-- the least of the cells of the key
unfoldable pub count_min_estimate : Shape → List ℤ → FlowKey → ℤ
count_min_estimate shape cells key = least_of (key_cells shape cells key)

-- the number put into its place among numbers that rise
abbrev pub inserted : ℤ → List ℤ → List ℤ
inserted x [] = x ∷ []
inserted x (y ∷ ys) = if int_lt y x then y ∷ inserted x ys else x ∷ y ∷ ys

-- the numbers in rising order
abbrev pub sorted_of : List ℤ → List ℤ
sorted_of [] = []
sorted_of (x ∷ xs) = inserted x (sorted_of xs)

-- the lower median: of n numbers in rising order, counted from 0, number (n - 1) div 2
unfoldable pub lower_median_of : List ℤ → ℤ
lower_median_of xs = slice_index_or (sorted_of xs) ((length xs - 1) / 2) (pos 0)

-- the key's cell in each row, times the row's sign
unfoldable pub signed_cells : Shape → List ℤ → FlowKey → List ℤ
signed_cells shape cells key = map (λ row. signed_in_row key row (value_at cells (cell_of shape key row))) (rows_of shape)

-- the lower median of the signed cells of the key
unfoldable pub count_sketch_estimate : Shape → List ℤ → FlowKey → ℤ
count_sketch_estimate shape cells key = lower_median_of (signed_cells shape cells key)

-- LogLog joins by the greater of two ranks, from 0 to 32.

-- a rank: 0 where nothing was counted
abbrev pub is_rank : ℤ → Bool
is_rank a = int_le (pos 0) a && int_le a (pos 32)

-- the greater rank
abbrev pub rank_join : ℤ → ℤ → ℤ
rank_join a b = int_max a b

-- the whole rank, where it is above `told`
abbrev pub rank_gap : ℤ → ℤ → ℤ
rank_gap told whole = if int_lt told whole then whole else pos 0

-- how far the whole rank is above `told`
abbrev pub rank_distance : ℤ → ℤ → ℕ
rank_distance told whole = if int_lt told whole then unsigned_abs (whole -ℤ told) else 0

-- both ranks in one number, where they are at most 2 apart
abbrev pub rank_small : ℤ → ℤ → Option ℤ
rank_small told whole = if nat_le (rank_distance told whole) 2 then Some (pos (unsigned_abs told + 33 * rank_distance told whole)) else None

-- the rank for m registers: one more than the number of trailing zero bits of hash div m, at most 32
unfoldable pub rank_of : ℕ → ℕ → ℕ
rank_of hash m = if hash / m == 0 then 32 else min 32 (1 + trailing_zeros w64 (hash / m))

-- what a packet tells its register: the rank of its row hash in row 0
abbrev pub loglog_value : Shape → Packet → ℕ → ℤ
loglog_value shape packet row = pos (rank_of (row_hash_of packet.key 0) shape.columns)

-- Z: the sum of 2 ^ (32 - M) over all registers M
unfoldable pub register_sum : List ℤ → ℕ
register_sum cells = sum_by (λ rank. 2 ^ (32 - unsigned_abs rank)) cells

-- V: how many registers are 0
unfoldable pub zero_registers : List ℤ → ℕ
zero_registers cells = count_by (λ rank. int_eq rank (pos 0)) cells

-- E = (7213 * m ^ 3 * 2 ^ 32) div ((10000 * m + 10790) * Z)
unfoldable pub raw_estimate : ℕ → ℕ → ℕ
raw_estimate m z = (7213 * (m * m * m) * 2 ^ 32) / ((10000 * m + 10790) * z)

-- (the sum over i from V + 1 to m of (m * 65536 div i)) div 65536
unfoldable pub linear_count : ℕ → ℕ → ℕ
linear_count m v = sum (map (λ i. m * 65536 / i) (range_with_len (v + 1) (m - v))) / 65536

-- the whole-number estimate of how many keys were counted
unfoldable pub distinct_of : ℕ → List ℤ → ℕ
distinct_of m cells =
    let raw = raw_estimate m (register_sum cells) in
    let v = zero_registers cells in
    if nat_lt 0 v && nat_le (2 * raw) (5 * m) then linear_count m v else raw

-- how many keys were counted, whatever key is asked for
unfoldable pub loglog_estimate : Shape → List ℤ → FlowKey → ℤ
loglog_estimate shape cells key = pos (distinct_of shape.columns cells)
