-- A table whose cells are cleared by the packets that it holds.
use Rattle.std.proofs.Common.{◌≡◌, ◌≢◌, ◌∙◌, ◌<◌, ◌≤◌, ◌+◌, ◌⊎◌, ◌==◌, ℕ, ℤ, zero, suc, pos, Bool, true, false, if◌then◌else◌, List, [], ◌∷◌, ◌++◌, length, map, set, get_or, All, refl, sym, ap, subst, inl, inr, arith}
use Rattle.std.specs.Prelude.{filter}
use Rattle.std.specs.List.{flat_map, range_with_len}
use Rattle.std.proofs.lemmas.Bool.{cases_lt}
use Rattle.std.proofs.lemmas.List.{ext_get_or, get_or-set_other, get_or-set_same}
use Rattle.std.proofs.lemmas.List.Elements.{All-map}
use Rattle.std.proofs.lemmas.List.FromFn.{get_or-map-range_with_len, length-map-range_with_len}
use Rattle.packet_key.specs.declared.key.FlowKey.TheVariants.{V4}
use Rattle.hash_rows.specs.declared.options.Sketch.TheVariants.{CountSketch}
use Rattle.hash_rows.specs.declared.shape.Packet.{Packet}
use Rattle.hash_rows.specs.declared.shape.Shape.{Shape}
use Rattle.hash_rows.specs.Rules.{Rules, rules_of}
use Rattle.hash_rows.specs.Sequential.{cell_values, joined_of, packet_values, sequential, sequential_table}
use Rattle.hash_rows.specs.Shapes.{cell_of, size_of}
use Rattle.hash_rows.specs.Sketches.{rows_of}
use Rattle.hash_rows.specs.Tables.{TableView, value_at}
use Rattle.epoch_run.specs.Epochs.{sketch_table}

-- one of the rows passes the test, or none does
row_or_none : (p : ℕ → Bool) (first n : ℕ) → ((row : ℕ) × (first ≤ row) × (row < first + n) × (p row ≡ true)) ⊎ (filter p (range_with_len first n) ≡ [])
row_or_none p first zero = inr refl
row_or_none p first (suc n) = by_test (p first) refl (row_or_none p (first + 1) n) where
  by_test : (b : Bool) → p first ≡ b → ((row : ℕ) × (first + 1 ≤ row) × (row < first + 1 + n) × (p row ≡ true)) ⊎ (filter p (range_with_len (first + 1) n) ≡ [])
      → ((row : ℕ) × (first ≤ row) × (row < first + suc n) × (p row ≡ true)) ⊎ (filter p (range_with_len first (suc n)) ≡ [])
  by_test true passes rest = inl (first, omega arith, omega arith, passes)
  by_test false fails (inl found) = inl (found.0, omega (arith, found.1), omega (arith, found.2), found.3)
  by_test false fails (inr none) = inr (ap (λ b. if b then first ∷ filter p (range_with_len (first + 1) n) else filter p (range_with_len (first + 1) n)) fails ∙ none)

-- a cell is one of some packet's key, or none of them adds to it
pub touched_or_none : (shape : Shape) (cell : ℕ) (packets : List Packet) (d : Packet)
    → ((k : ℕ) × (row : ℕ) × (k < length packets) × (row < shape.rows) × (cell_of shape (get_or packets k d).key row ≡ cell)) ⊎ (cell_values (rules_of CountSketch) shape packets cell ≡ [])
unfolding cell_values packet_values
touched_or_none shape cell [] d = inr refl
touched_or_none shape cell (packet ∷ packets) d =
    both (row_or_none (λ row. cell_of shape packet.key row == cell) 0 shape.rows) (touched_or_none shape cell packets d) where
      rules : Rules
      rules = rules_of CountSketch

      both : ((row : ℕ) × (0 ≤ row) × (row < 0 + shape.rows) × ((cell_of shape packet.key row == cell) ≡ true)) ⊎ (filter (λ row. cell_of shape packet.key row == cell) (rows_of shape) ≡ [])
          → ((k : ℕ) × (row : ℕ) × (k < length packets) × (row < shape.rows) × (cell_of shape (get_or packets k d).key row ≡ cell)) ⊎ (flat_map (packet_values (rules_of CountSketch) shape cell) packets ≡ [])
          → ((k : ℕ) × (row : ℕ) × (k < length (packet ∷ packets)) × (row < shape.rows) × (cell_of shape (get_or (packet ∷ packets) k d).key row ≡ cell)) ⊎ (flat_map (packet_values (rules_of CountSketch) shape cell) (packet ∷ packets) ≡ [])
      both (inl found) rest = let same : cell_of shape packet.key found.0 ≡ cell = grind (arith, found.3) in inl (0, found.0, omega arith, omega (arith, found.2), same)
      both (inr none) (inl found) = inl (suc found.0, found.1, omega (arith, found.2), found.3, found.4)
      both (inr none) (inr rest) =
          inr (ap (λ (rows : List ℕ). map (λ row. (rules_of CountSketch).value shape packet row) rows ++ flat_map (packet_values (rules_of CountSketch) shape cell) packets) none ∙ rest)

-- a cell to which nothing was added is 0
untouched : (shape : Shape) (cell : ℕ) (packets : List Packet) → cell < size_of shape → cell_values (rules_of CountSketch) shape packets cell ≡ [] → value_at (sketch_table shape packets).cells cell ≡ pos 0
unfolding sketch_table sequential_table sequential
untouched shape cell packets within none =
    get_or-map-range_with_len (sequential (rules_of CountSketch) shape packets) 0 (size_of shape) cell cell (pos 0) within (omega arith) ∙ ap (joined_of (rules_of CountSketch)) none

pub sketch_len : (shape : Shape) (packets : List Packet) (table : TableView) → table ≡ sketch_table shape packets → length table.cells ≡ size_of table.shape
unfolding sketch_table sequential_table
sketch_len shape packets table is =
    ap (λ (t : TableView). length t.cells) is ∙ length-map-range_with_len (sequential (rules_of CountSketch) shape packets) 0 (size_of shape) ∙ sym (ap (λ (t : TableView). size_of t.shape) is)

pub empty_zero : (shape : Shape) (table : TableView) → table ≡ sketch_table shape [] → All (λ c. c ≡ pos 0) table.cells
unfolding sketch_table sequential_table cell_values sequential
empty_zero shape table is =
    subst (λ (t : TableView). All (λ c. c ≡ pos 0) t.cells) (sym is)
    (All-map (λ c. c ≡ pos 0) (sequential (rules_of CountSketch) shape []) (range_with_len 0 (size_of shape)) (λ k d lt. refl))

-- a table of zeros is that of no packet
pub all_zero : (shape : Shape) (table : TableView) → table.shape ≡ shape → length table.cells ≡ size_of shape → ((cell : ℕ) → cell < size_of shape → value_at table.cells cell ≡ pos 0) → table ≡ sketch_table shape []
unfolding sketch_table sequential_table cell_values
all_zero shape table mine len zeros =
    let empty : List ℤ = map (sequential (rules_of CountSketch) shape []) (range_with_len 0 (size_of shape)) in
    let lens : length table.cells ≡ length empty = len ∙ sym (length-map-range_with_len (sequential (rules_of CountSketch) shape []) 0 (size_of shape)) in
    let same : table.cells ≡ empty = ext_get_or (pos 0) table.cells empty lens (λ i lt.
    let inside : i < size_of shape = omega (arith, lt, len) in zeros i inside ∙ sym (untouched shape i [] inside refl)) in
    ap (λ (s : Shape). record { shape = s; cells = table.cells }) mine ∙ ap (λ (cells : List ℤ). record { shape = shape; cells = cells }) same

-- a packet of zeros
abbrev pub nothing : Packet
nothing = record { key = V4 0 0 0 0 0; amount = 0 }

-- what stands past the end has no part in what stands before it
pub same_there : (packets : List Packet) (n : ℕ) (d e : Packet) → n < length packets → get_or packets n d ≡ get_or packets n e
same_there [] n d e lt = absurd (omega (arith, lt))
same_there (packet ∷ packets) zero d e lt = refl
same_there (packet ∷ packets) (suc n) d e lt = same_there packets n d e (omega (arith, lt))

-- where each cell of each packet's key is cleared, and no other is changed but to 0, nothing is left
pub all_cleared : (packets : List Packet) (table now : TableView) → table ≡ sketch_table table.shape packets → now.shape ≡ table.shape → length now.cells ≡ length table.cells
    → ((k : ℕ) (d : Packet) (row : ℕ) → k < length packets → row < table.shape.rows → value_at now.cells (cell_of table.shape (get_or packets k d).key row) ≡ pos 0)
    → ((cell : ℕ) → value_at table.cells cell ≡ pos 0 → value_at now.cells cell ≡ pos 0) → now ≡ sketch_table table.shape []
all_cleared packets table now was shape len cleared kept =
    all_zero table.shape now shape (len ∙ sketch_len table.shape packets table was) (λ cell within.
    elim (touched_or_none table.shape cell packets nothing) [
      | inl found ↦ subst (λ k. value_at now.cells k ≡ pos 0) found.4 (cleared found.0 nothing found.1 found.2 found.3)
      | inr none ↦ kept cell (ap (λ (t : TableView). value_at t.cells cell) was ∙ untouched table.shape cell packets within none)
    ])

-- a cell that is 0 stays 0
pub kept_zero : (cells : List ℤ) (cleared cell : ℕ) → cleared < length cells → value_at cells cell ≡ pos 0 → value_at (set cells cleared (pos 0)) cell ≡ pos 0
kept_zero cells cleared cell there is = by_test (cell == cleared) refl where
  by_test : (b : Bool) → (cell == cleared) ≡ b → value_at (set cells cleared (pos 0)) cell ≡ pos 0
  by_test true same = let at : cell ≡ cleared = grind arith in ap (value_at (set cells cleared (pos 0))) at ∙ get_or-set_same cells cleared (pos 0) (pos 0) there
  by_test false other = let apart : cell ≢ cleared = grind arith in get_or-set_other cells cleared cell (pos 0) (pos 0) apart ∙ is

-- one more cell of a key is cleared
pub cleared_more : (cells : List ℤ) (at : ℕ → ℕ) (rows : ℕ) → at rows < length cells → ((row : ℕ) → row < rows → value_at cells (at row) ≡ pos 0)
    → (row : ℕ) → row < rows + 1 → value_at (set cells (at rows) (pos 0)) (at row) ≡ pos 0
cleared_more cells at rows there before row within = elim (cases_lt row rows) [
  | inl early ↦ kept_zero cells (at rows) (at row) there (before row early)
  | inr late ↦ let same : row ≡ rows = omega (arith, late, within) in
      ap (λ k. value_at (set cells (at rows) (pos 0)) (at k)) same ∙ get_or-set_same cells (at rows) (pos 0) (pos 0) there
]

-- one more packet's cells are cleared
pub packets_cleared : (shape : Shape) (packets : List Packet) (n : ℕ) (cells new : List ℤ) (packet : Packet) → ((d : Packet) → get_or packets n d ≡ packet)
    → ((k : ℕ) (d : Packet) (row : ℕ) → k < n → row < shape.rows → value_at cells (cell_of shape (get_or packets k d).key row) ≡ pos 0)
    → ((cell : ℕ) → value_at cells cell ≡ pos 0 → value_at new cell ≡ pos 0)
    → ((row : ℕ) → row < shape.rows → value_at new (cell_of shape packet.key row) ≡ pos 0)
    → (k : ℕ) (d : Packet) (row : ℕ) → k < n + 1 → row < shape.rows → value_at new (cell_of shape (get_or packets k d).key row) ≡ pos 0
packets_cleared shape packets n cells new packet at before kept here k d row within inside = elim (cases_lt k n) [
  | inl early ↦ kept (cell_of shape (get_or packets k d).key row) (before k d row early inside)
  | inr late ↦ let same : k ≡ n = omega (arith, late, within) in
      ap (λ j. value_at new (cell_of shape (get_or packets j d).key row)) same ∙ ap (λ (p : Packet). value_at new (cell_of shape p.key row)) (at d) ∙ here row inside
]
