-- One more packet, row by row.
use Rattle.std.proofs.Common.{◌≡◌, ◌<◌, ℕ, zero, suc, ◌+◌, ◌==◌, ℤ, pos, List, [], ◌∷◌, ◌++◌, set, replicate, Bool, true, false, if◌then◌else◌, refl, sym, ap, ◌∙◌, subst, arith}
use Rattle.std.specs.Prelude.{filter, map}
use Rattle.std.specs.List.{range_with_len}
use Rattle.std.proofs.lemmas.List.{append-nil, append_assoc}
use Rattle.std.proofs.lemmas.List.Sums.{fold_push}
use Rattle.std.proofs.lemmas.List.FromFn.{get_or-map-range_with_len}
use Rattle.std.proofs.lemmas.Grind.{flat_map-append}
use Rattle.hash_rows.specs.declared.shape.Packet.{Packet}
use Rattle.hash_rows.specs.declared.shape.Shape.{Shape}
use Rattle.hash_rows.specs.Rules.{Rules}
use Rattle.hash_rows.specs.Sequential.{joined_of, packet_values, cell_values, sequential, sequential_table}
use Rattle.hash_rows.specs.Shapes.{cell_of, size_of}
use Rattle.hash_rows.specs.Tables.{TableView, value_at, put_in}
use Rattle.push_history.proofs.Lists.{kept_push}
use Rattle.push_history.proofs.Sharing.{range_more}

-- what the first rows of a packet give a cell
abbrev pub row_values : Rules → Shape → Packet → ℕ → ℕ → List ℤ
row_values r shape packet rows cell = map (λ row. r.value shape packet row) (filter (λ row. cell_of shape packet.key row == cell) (range_with_len 0 rows))

-- what a cell holds of the packets, and of the first rows of one more
unfoldable pub reached : Rules → Shape → List Packet → Packet → ℕ → ℕ → ℤ
reached r shape packets packet rows cell = joined_of r (cell_values r shape packets cell ++ row_values r shape packet rows cell)

unfoldable pub reached_table : Rules → Shape → List Packet → Packet → ℕ → TableView
reached_table r shape packets packet rows = record { shape = shape; cells = map (reached r shape packets packet rows) (range_with_len 0 (size_of shape)) }

-- maps that agree
map_same : (f g : ℕ → ℤ) → ((i : ℕ) → f i ≡ g i) → (xs : List ℕ) → map f xs ≡ map g xs
map_same f g same [] = refl
map_same f g same (x ∷ xs) = rw (same x) (ap (λ t. g x ∷ t) (map_same f g same xs))

pub reached_none : (r : Rules) (shape : Shape) (packets : List Packet) (packet : Packet) → reached_table r shape packets packet 0 ≡ sequential_table r shape packets
unfolding reached_table reached sequential_table sequential
reached_none r shape packets packet =
    ap (λ (cells : List ℤ). record { shape = shape; cells = cells })
    (map_same (reached r shape packets packet 0) (sequential r shape packets) (λ i. ap (joined_of r) (append-nil (cell_values r shape packets i))) (range_with_len 0 (size_of shape)))

pub reached_all : (r : Rules) (shape : Shape) (packets : List Packet) (packet : Packet)
    → reached_table r shape packets packet shape.rows ≡ sequential_table r shape (packets ++ packet ∷ [])
unfolding reached_table reached sequential_table sequential cell_values packet_values
reached_all r shape packets packet =
    ap (λ (cells : List ℤ). record { shape = shape; cells = cells })
    (map_same (reached r shape packets packet shape.rows) (sequential r shape (packets ++ packet ∷ []))
    (λ i. ap (joined_of r) (sym (flat_map-append (packet_values r shape i) packets (packet ∷ [])
    ∙ ap (λ (t : List ℤ). cell_values r shape packets i ++ t) (append-nil (packet_values r shape i packet)))))
    (range_with_len 0 (size_of shape)))

-- one more row
reached_more : (r : Rules) (shape : Shape) (packets : List Packet) (packet : Packet) (rows cell : ℕ)
    → reached r shape packets packet (rows + 1) cell
    ≡ (if cell_of shape packet.key rows == cell then r.join (reached r shape packets packet rows cell) (r.value shape packet rows) else reached r shape packets packet rows cell)
unfolding reached
reached_more r shape packets packet rows cell =
    let front : List ℤ = cell_values r shape packets cell in
    let now : List ℤ = row_values r shape packet rows cell in
    let v : ℤ = r.value shape packet rows in
    ap (λ (t : List ℕ). joined_of r (front ++ map (λ row. r.value shape packet row) (filter (λ row. cell_of shape packet.key row == cell) t))) (range_more rows)
    ∙ ap (λ (t : List ℤ). joined_of r (front ++ t)) (kept_push (λ row. cell_of shape packet.key row == cell) (λ row. r.value shape packet row) (range_with_len 0 rows) rows)
    ∙ elim (cell_of shape packet.key rows == cell) as (λ b. joined_of r (front ++ (if b then now ++ v ∷ [] else now)) ≡ (if b then r.join (joined_of r (front ++ now)) v else joined_of r (front ++ now)))
    [ true ↦ ap (joined_of r) (sym (append_assoc front now (v ∷ []))) ∙ fold_push r.join (pos 0) (front ++ now) v | false ↦ refl ]

-- only the number at c has another image
same_behind : (f g : ℕ → ℤ) (v : ℤ) (c : ℕ) → ((i : ℕ) → g i ≡ (if c == i then v else f i)) → (first n : ℕ) → c < first → map f (range_with_len first n) ≡ map g (range_with_len first n)
same_behind f g v c is first zero lt = refl
same_behind f g v c is first (suc n) lt =
    let no : (c == first) ≡ false = grind arith in
    let now : g first ≡ f first = is first ∙ ap (λ (b : Bool). if b then v else f first) no in
    rw now (ap (λ t. f first ∷ t) (same_behind f g v c is (first + 1) n (omega (arith, lt))))

set_mapped : (f g : ℕ → ℤ) (v : ℤ) (c : ℕ) → ((i : ℕ) → g i ≡ (if c == i then v else f i)) → (first n k : ℕ) → first + k ≡ c → k < n
    → set (map f (range_with_len first n)) k v ≡ map g (range_with_len first n)
set_mapped f g v c is first zero k at lt = absurd (omega (arith, lt))
set_mapped f g v c is first (suc n) zero at lt =
    let yes : (c == first) ≡ true = grind arith in
    let now : g first ≡ v = is first ∙ ap (λ (b : Bool). if b then v else f first) yes in
    rw now (ap (λ t. v ∷ t) (same_behind f g v c is (first + 1) n (omega (arith, at))))
set_mapped f g v c is first (suc n) (suc k) at lt =
    let no : (c == first) ≡ false = grind arith in
    let now : g first ≡ f first = is first ∙ ap (λ (b : Bool). if b then v else f first) no in
    rw now (ap (λ t. f first ∷ t) (set_mapped f g v c is (first + 1) n k (omega (arith, at)) (omega (arith, lt))))

-- joining a packet's value into its cell of one more row
pub reached_next : (r : Rules) (shape : Shape) (packets : List Packet) (packet : Packet) (row : ℕ) → cell_of shape packet.key row < size_of shape
    → put_in r.join (reached_table r shape packets packet row) (cell_of shape packet.key row) (r.value shape packet row)
    ≡ reached_table r shape packets packet (row + 1)
unfolding reached_table
reached_next r shape packets packet row lt =
    let cell : ℕ = cell_of shape packet.key row in
    let was : ℕ → ℤ = reached r shape packets packet row in
    let v : ℤ = r.value shape packet row in
    let held : value_at (map was (range_with_len 0 (size_of shape))) cell ≡ was cell = get_or-map-range_with_len was 0 (size_of shape) cell cell (pos 0) lt (omega arith) in
    ap (λ (cells : List ℤ). record { shape = shape; cells = cells })
    (ap (λ (w : ℤ). set (map was (range_with_len 0 (size_of shape))) cell (r.join w v)) held
    ∙ set_mapped was (reached r shape packets packet (row + 1)) (r.join (was cell) v) cell (next_at r shape packets packet row) 0 (size_of shape) cell (omega arith) lt)
  where
    next_by : (r : Rules) (shape : Shape) (packets : List Packet) (packet : Packet) (row i : ℕ) (b : Bool) → (cell_of shape packet.key row == i) ≡ b
        → (if b then r.join (reached r shape packets packet row i) (r.value shape packet row) else reached r shape packets packet row i)
        ≡ (if b then r.join (reached r shape packets packet row (cell_of shape packet.key row)) (r.value shape packet row) else reached r shape packets packet row i)
    next_by r shape packets packet row i true is =
        let same : cell_of shape packet.key row ≡ i = grind arith in
        ap (λ (k : ℕ). r.join (reached r shape packets packet row k) (r.value shape packet row)) (sym same)
    next_by r shape packets packet row i false is = refl

    next_at : (r : Rules) (shape : Shape) (packets : List Packet) (packet : Packet) (row i : ℕ)
        → reached r shape packets packet (row + 1) i
        ≡ (if cell_of shape packet.key row == i then r.join (reached r shape packets packet row (cell_of shape packet.key row)) (r.value shape packet row) else reached r shape packets packet row i)
    next_at r shape packets packet row i = reached_more r shape packets packet row i ∙ next_by r shape packets packet row i (cell_of shape packet.key row == i) refl

zeros : (r : Rules) (shape : Shape) (first n : ℕ) → replicate n (pos 0) ≡ map (sequential r shape []) (range_with_len first n)
unfolding sequential cell_values
zeros r shape first zero = refl
zeros r shape first (suc n) = ap (λ t. pos 0 ∷ t) (zeros r shape (first + 1) n)

-- no packet yet
pub nothing_added : (r : Rules) (shape : Shape) (table : TableView) → table.shape ≡ shape → table.cells ≡ replicate (size_of shape) (pos 0) → table ≡ sequential_table r shape []
unfolding sequential_table
nothing_added r shape table mine cells =
    ap (λ (s : Shape). record { shape = s; cells = table.cells }) mine
    ∙ ap (λ (cs : List ℤ). record { shape = shape; cells = cs }) (cells ∙ zeros r shape 0 (size_of shape))

-- the same, where the shape is known by another name
pub reached_put : (r : Rules) (shape : Shape) (packets : List Packet) (packet : Packet) (row cell : ℕ) (value : ℤ) (table : TableView)
    → table ≡ reached_table r shape packets packet row → cell ≡ cell_of shape packet.key row → cell < size_of shape → value ≡ r.value shape packet row
    → put_in r.join table cell value ≡ reached_table r shape packets packet (row + 1)
reached_put r shape packets packet row cell value table now at lt is =
    let within : cell_of shape packet.key row < size_of shape = subst (λ (k : ℕ). k < size_of shape) at lt in
    ap (λ (t : TableView). put_in r.join t cell value) now
    ∙ ap (λ (k : ℕ). put_in r.join (reached_table r shape packets packet row) k value) at
    ∙ ap (λ (v : ℤ). put_in r.join (reached_table r shape packets packet row) (cell_of shape packet.key row) v) is
    ∙ reached_next r shape packets packet row within

pub added_all : (r : Rules) (own shape : Shape) (packets : List Packet) (packet : Packet) (rows : ℕ) (table now : TableView)
    → own ≡ table.shape → own.rows ≡ rows → table ≡ sequential_table r shape packets
    → (table ≡ sequential_table r own packets → now ≡ reached_table r own packets packet rows)
    → now ≡ sequential_table r shape (packets ++ packet ∷ [])
unfolding sequential_table
added_all r own shape packets packet rows table now mine all was step =
    let same : own ≡ shape = mine ∙ ap (λ (t : TableView). t.shape) was in
    let from : table ≡ sequential_table r own packets = subst (λ (s : Shape). table ≡ sequential_table r s packets) (sym same) was in
    step from ∙ ap (λ (n : ℕ). reached_table r own packets packet n) (sym all) ∙ reached_all r own packets packet
    ∙ ap (λ (s : Shape). sequential_table r s (packets ++ packet ∷ [])) same
