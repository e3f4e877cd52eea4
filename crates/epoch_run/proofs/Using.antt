-- How many cells of a row aren't 0, as cells change.
use Rattle.std.proofs.Common.{◌≡◌, ◌≢◌, ◌∙◌, ◌<◌, ◌≤◌, ◌+◌, ◌-◌, ◌*◌, ◌==◌, ℕ, ℤ, suc, pos, Bool, true, false, cond, not, List, [], ◌∷◌, length, map, take, drop, set, get_or, replicate, All, refl, sym, ap, subst, arith}
use Rattle.std.specs.Prelude.{count_by, nat_lt}
use Rattle.std.specs.Ordering.{int_eq}
use Rattle.std.proofs.lemmas.List.{drop-set-add, drop-set-lt, ext_get_or, get_or-drop, get_or-set_other, get_or-replicate, get_or-set_same, get_or-take, length-drop, length-replicate, length-set, length-take, take-set-le}
use Rattle.std.proofs.lemmas.List.Elements.{All-drop, All-head, All-tail, All-take}
use Rattle.std.proofs.lemmas.List.FromFn.{get_or-map-range_with_len, length-map-range_with_len}
use Rattle.std.proofs.lemmas.List.Sums.{count_by-le-length, sum_by-cons, sum_by-set}
use Rattle.std.proofs.Math.Nat.{mul-le-mul_right, suc-mul}
use Rattle.std.proofs.Math.Seq.{take-set-lt}
use Rattle.hash_rows.specs.Shapes.{size_of}
use Rattle.hash_rows.specs.Sketches.{rows_of, sum_join}
use Rattle.hash_rows.specs.Tables.{TableView, put_in, row_of, used_in, value_at}
use Rattle.epoch_run.specs.Places.{HaveUsed, mark_of}

-- the cells of a part of a list, where one of them changes
part_set : (cells : List ℤ) (start count j : ℕ) (v : ℤ) → j < count → take count (drop start (set cells (start + j) v)) ≡ set (take count (drop start cells)) j v
part_set cells start count j v within =
    ap (take count) (drop-set-add start cells j v) ∙ take-set-lt count (drop start cells) j v within

part_at : (cells : List ℤ) (start count j : ℕ) → j < count → get_or (take count (drop start cells)) j (pos 0) ≡ value_at cells (start + j)
part_at cells start count j within = get_or-take count (drop start cells) j (pos 0) within ∙ get_or-drop start cells j (pos 0)

-- the table with another value in a cell
abbrev pub with_cell : TableView → ℕ → ℤ → TableView
with_cell table cell v = record { shape = table.shape; cells = set table.cells cell v }

row_span : (table : TableView) (row : ℕ) → row * table.shape.columns + table.shape.columns - row * table.shape.columns ≡ table.shape.columns
row_span table row = omega arith

-- the row of the cell
pub used_here : (table : TableView) (row cell : ℕ) (v : ℤ) → row * table.shape.columns ≤ cell → cell < row * table.shape.columns + table.shape.columns → cell < length table.cells
    → used_in (with_cell table cell v) row + mark_of (value_at table.cells cell) ≡ used_in table row + mark_of v
used_here table row cell v low high within =
    let columns : ℕ = table.shape.columns in
    let start : ℕ = row * columns in
    let count : ℕ = start + columns - start in
    let j : ℕ = cell - start in
    let at : start + j ≡ cell = omega (arith, low) in
    let inside : j < count = omega (arith, low, high) in
    let part : List ℤ = take count (drop start table.cells) in
    let there : j < length part = omega (arith, length-take count (drop start table.cells), length-drop start table.cells, inside, within, at) in
    let now : row_of (with_cell table cell v) row ≡ set part j v = ap (λ k. take count (drop start (set table.cells k v))) (sym at) ∙ part_set table.cells start count j v inside in
    let was : get_or part j (pos 0) ≡ value_at table.cells cell = part_at table.cells start count j inside ∙ ap (value_at table.cells) at in
    let sums = sum_by-set mark_of part j v (pos 0) there in
    ap (λ (xs : List ℤ). count_by (λ c. not (int_eq c (pos 0))) xs + mark_of (value_at table.cells cell)) now
    ∙ ap (λ z. count_by (λ c. not (int_eq c (pos 0))) (set part j v) + mark_of z) (sym was)
    ∙ sums

-- any other row
pub used_there : (table : TableView) (row other cell : ℕ) (v : ℤ) → row * table.shape.columns ≤ cell → cell < row * table.shape.columns + table.shape.columns → other ≢ row
    → used_in (with_cell table cell v) other ≡ used_in table other
used_there table row other cell v low high apart = by_test (nat_lt other row) refl where
  columns : ℕ
  columns = table.shape.columns

  count : ℕ
  count = other * columns + columns - other * columns

  by_test : (b : Bool) → nat_lt other row ≡ b → used_in (with_cell table cell v) other ≡ used_in table other
  by_test true before =
      let less : suc other ≤ row = grind arith in
      let below : suc other * columns ≤ row * columns = mul-le-mul_right columns less in
      let span = row_span table other in
      let at : other * columns + (cell - other * columns) ≡ cell = omega (arith, below, low, suc-mul other columns) in
      let past : count ≤ cell - other * columns = omega (arith, below, low, suc-mul other columns) in
      ap (λ (xs : List ℤ). count_by (λ c. not (int_eq c (pos 0))) xs)
      (ap (λ k. take count (drop (other * columns) (set table.cells k v))) (sym at)
      ∙ ap (take count) (drop-set-add (other * columns) table.cells (cell - other * columns) v)
      ∙ take-set-le count (drop (other * columns) table.cells) (cell - other * columns) v past)
  by_test false after =
      let more : row < other = grind arith in
      let above : suc row * columns ≤ other * columns = mul-le-mul_right columns (omega (arith, more)) in
      let early : cell < other * columns = omega (arith, above, high, suc-mul row columns) in
      ap (λ (xs : List ℤ). count_by (λ c. not (int_eq c (pos 0))) (take count xs)) (drop-set-lt (other * columns) table.cells cell v early)

used_len : (table : TableView) (used : List ℕ) → HaveUsed table used → length used ≡ table.shape.rows
used_len table used is = ap length is ∙ length-map-range_with_len (used_in table) 0 table.shape.rows

pub used_at : (table : TableView) (used : List ℕ) (row : ℕ) → HaveUsed table used → row < table.shape.rows → get_or used row 0 ≡ used_in table row
used_at table used row is within =
    ap (λ (xs : List ℕ). get_or xs row 0) is ∙ get_or-map-range_with_len (used_in table) 0 table.shape.rows row row 0 within (omega arith)

pub used_within : (table : TableView) (used : List ℕ) (row : ℕ) → HaveUsed table used → row < table.shape.rows → row < length used
used_within table used row is within = omega (arith, used_len table used is, within)

-- a row has no more than its columns
pub used_most : (table : TableView) (row : ℕ) → used_in table row ≤ table.shape.columns
used_most table row =
    let part : List ℤ = row_of table row in
    omega (arith, count_by-le-length (λ c. not (int_eq c (pos 0))) part, length-take (row * table.shape.columns + table.shape.columns - row * table.shape.columns) (drop (row * table.shape.columns) table.cells))

-- all rows after a cell of one changed
pub used_set : (table : TableView) (used : List ℕ) (row cell number : ℕ) (v : ℤ) → HaveUsed table used → row < table.shape.rows
    → row * table.shape.columns ≤ cell → cell < row * table.shape.columns + table.shape.columns → cell < length table.cells
    → number + mark_of (value_at table.cells cell) ≡ get_or used row 0 + mark_of v → HaveUsed (with_cell table cell v) (set used row number)
used_set table used row cell number v is within low high there sums =
    ext_get_or 0 (set used row number) (map (used_in now) (rows_of table.shape)) lens each where
      now : TableView
      now = with_cell table cell v

      lens : length (set used row number) ≡ length (map (used_in (with_cell table cell v)) (rows_of table.shape))
      lens = length-set used row number ∙ used_len table used is ∙ sym (length-map-range_with_len (used_in (with_cell table cell v)) 0 table.shape.rows)

      right : (i : ℕ) → i < table.shape.rows → get_or (map (used_in (with_cell table cell v)) (rows_of table.shape)) i 0 ≡ used_in (with_cell table cell v) i
      right i lt = get_or-map-range_with_len (used_in (with_cell table cell v)) 0 table.shape.rows i i 0 lt (omega arith)

      each : (i : ℕ) → i < length (set used row number) → get_or (set used row number) i 0 ≡ get_or (map (used_in (with_cell table cell v)) (rows_of table.shape)) i 0
      each i lt = by_test (i == row) refl where
        inside : i < table.shape.rows
        inside = omega (arith, lt, length-set used row number, used_len table used is)

        by_test : (b : Bool) → (i == row) ≡ b → get_or (set used row number) i 0 ≡ get_or (map (used_in (with_cell table cell v)) (rows_of table.shape)) i 0
        by_test true same =
            let at : i ≡ row = grind arith in
            let its : number ≡ used_in (with_cell table cell v) row = omega (arith, sums, used_here table row cell v low high there, used_at table used row is within) in
            ap (λ k. get_or (set used row number) k 0) at ∙ get_or-set_same used row number 0 (used_within table used row is within) ∙ its
            ∙ ap (used_in (with_cell table cell v)) (sym at) ∙ sym (right i inside)
        by_test false other =
            let apart : i ≢ row = grind arith in
            get_or-set_other used row i number 0 apart ∙ used_at table used i is inside ∙ sym (used_there table row i cell v low high apart) ∙ sym (right i inside)

-- a cell that isn't 0 is one of its row
pub used_some : (table : TableView) (row cell : ℕ) → row * table.shape.columns ≤ cell → cell < row * table.shape.columns + table.shape.columns → cell < length table.cells
    → mark_of (value_at table.cells cell) ≤ used_in table row
used_some table row cell low high there = omega (arith, used_here table row cell (pos 0) low high there)

-- the same, where the cell joins an amount
pub used_joined : (table new : TableView) (used : List ℕ) (row cell before after was : ℕ) (amount : ℤ) → HaveUsed table used → new ≡ put_in sum_join table cell amount → row < table.shape.rows
    → row * table.shape.columns ≤ cell → cell < row * table.shape.columns + table.shape.columns → cell < length table.cells
    → before ≡ mark_of (value_at table.cells cell) → after ≡ mark_of (value_at new.cells cell) → was ≡ get_or used row 0 → HaveUsed new (set used row (was + after - before))
used_joined table new used row cell before after was amount is put within low high there first second at =
    let v : ℤ = sum_join (value_at table.cells cell) amount in
    let held : value_at new.cells cell ≡ v = ap (λ (t : TableView). value_at t.cells cell) put ∙ get_or-set_same table.cells cell v (pos 0) there in
    let some : mark_of (value_at table.cells cell) ≤ used_in table row = used_some table row cell low high there in
    let same : mark_of (value_at new.cells cell) ≡ mark_of v = ap mark_of held in
    subst (λ (t : TableView). HaveUsed t (set used row (was + after - before))) (sym put)
    (used_set table used row cell (was + after - before) v is within low high there (omega (arith, first, second, at, some, same, used_at table used row is within)))

pub mark_most : (mark : ℕ) (a : ℤ) → mark ≡ mark_of a → mark ≤ 1
mark_most mark a is = by_test (not (int_eq a (pos 0))) is where
  by_test : (b : Bool) → mark ≡ cond b 1 0 → mark ≤ 1
  by_test true one = omega (arith, one)
  by_test false none = omega (arith, none)

-- a cell of a row is one of the table
pub cell_there : (table : TableView) (row cell : ℕ) → length table.cells ≡ size_of table.shape → row < table.shape.rows → cell < row * table.shape.columns + table.shape.columns → cell < length table.cells
cell_there table row cell len within high =
    let all : suc row * table.shape.columns ≤ table.shape.rows * table.shape.columns = mul-le-mul_right table.shape.columns (omega (arith, within)) in
    omega (arith, len, all, high, suc-mul row table.shape.columns)

-- where all are 0, none is counted
none_counted : (xs : List ℤ) → All (λ c. c ≡ pos 0) xs → count_by (λ c. not (int_eq c (pos 0))) xs ≡ 0
none_counted [] all = refl
none_counted (x ∷ xs) all =
    let first : mark_of x ≡ 0 = ap mark_of (All-head (λ c. c ≡ pos 0) x xs all) in
    sum_by-cons mark_of x xs ∙ omega (arith, first, none_counted xs (All-tail (λ c. c ≡ pos 0) x xs all))

-- no cell of a table of zeros is used
pub none_used : (table : TableView) (rows : ℕ) (used : List ℕ) → All (λ c. c ≡ pos 0) table.cells → rows ≡ table.shape.rows → used ≡ replicate rows 0 → HaveUsed table used
none_used table rows used zeros all is =
    let shown : List ℕ = map (used_in table) (rows_of table.shape) in
    is ∙ ap (λ n. replicate n 0) all
    ∙ ext_get_or 0 (replicate table.shape.rows 0) shown (length-replicate {A = ℕ} table.shape.rows 0 ∙ sym (length-map-range_with_len (used_in table) 0 table.shape.rows))
    (λ i lt. let inside : i < table.shape.rows = omega (arith, lt, length-replicate {A = ℕ} table.shape.rows 0) in
    let start : ℕ = i * table.shape.columns in
    let count : ℕ = start + table.shape.columns - start in
    let none : used_in table i ≡ 0 = none_counted (row_of table i) (All-take (λ c. c ≡ pos 0) count (drop start table.cells) (All-drop (λ c. c ≡ pos 0) start table.cells zeros)) in
    get_or-replicate table.shape.rows i 0 0 inside ∙ sym none
    ∙ sym (get_or-map-range_with_len (used_in table) 0 table.shape.rows i i 0 inside (omega arith)))
