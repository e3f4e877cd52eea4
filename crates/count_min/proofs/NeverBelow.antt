-- Count-Min is never below: each cell of a key is at least what the key's packets amount to.
use Rattle.std.proofs.Common.{◌≡◌, ◌<◌, ◌≤◌, ◌+◌, ◌*◌, ◌^◌, ◌≤ℤ◌, ◌==◌, ℕ, ℤ, pos, zero, suc, Bool, true, false, cond, inl, inr, List, [], ◌∷◌, length, map, filter, fold, refl, sym, ap, subst, ◌∙◌, arith}
use Rattle.std.specs.Prelude.{sum_by, if◌then◌else◌}
use Rattle.std.specs.Int.{int_min}
use Rattle.std.specs.List.{flat_map, range_with_len}
use Rattle.std.proofs.lemmas.Bool.{eq-eqb, true≢false}
use Rattle.std.proofs.lemmas.Int.{ints, clamps}
use Rattle.std.proofs.lemmas.List.FromFn.{get_or-map-range_with_len}
use Rattle.std.proofs.lemmas.List.Sums.{fold-append, sum_by-cons, sum_by-le-sum_by}
use Rattle.std.proofs.Math.Nat.{mul-le-mul_left, eq-or-lt_of_le}
use Rattle.packet_key.specs.declared.key.FlowKey.{FlowKey}
use Rattle.hash_rows.specs.declared.shape.Shape.{Shape}
use Rattle.hash_rows.specs.declared.shape.Packet.{Packet}
use Rattle.hash_rows.specs.Amounts.{key_amount, total_amount}
use Rattle.packet_key.specs.Keys.{same_key}
use Rattle.hash_rows.specs.Rules.{sums}
use Rattle.hash_rows.specs.Sequential.{packet_values, cell_values, sequential, sequential_table}
use Rattle.hash_rows.specs.Shapes.{IsShape, cell_of, size_of}
use Rattle.hash_rows.specs.Sketches.{least_of, sum_join, count_min_value, count_min_estimate, key_cells}
use Rattle.hash_rows.specs.Tables.{value_at}
use Rattle.packet_key.proofs.EqualKeys.{same_key-eq}
use Rattle.hash_rows.proofs.Places.{place_within}
use Rattle.hash_rows.proofs.PlainSums.{added, added_most, join_amounts, rows_at}

rows_joined : (n : ℕ) (rows : List ℕ) (s : ℕ) → s + n * length rows < 2 ^ 63
    → fold sum_join (pos s) (map (λ row. pos n) rows) ≡ pos (s + n * length rows)
rows_joined n [] s small = ap pos (omega arith)
rows_joined n (row ∷ rows) s small =
    ap (λ x. fold sum_join x (map (λ r. pos n) rows)) (join_amounts s n (omega arith))
    ∙ rows_joined n rows (s + n) (omega arith)
    ∙ ap pos (omega arith)

packets_joined : (shape : Shape) (cell : ℕ) (packets : List Packet) (s : ℕ) → s + sum_by (added shape cell) packets < 2 ^ 63
    → fold sum_join (pos s) (flat_map (packet_values (sums count_min_value count_min_estimate) shape cell) packets) ≡ pos (s + sum_by (added shape cell) packets)
unfolding packet_values added rows_at
packets_joined shape cell [] s small = ap pos (omega arith)
packets_joined shape cell (p ∷ packets) s small =
    let values = packet_values (sums count_min_value count_min_estimate) shape cell in
    let more : sum_by (added shape cell) (p ∷ packets) ≡ added shape cell p + sum_by (added shape cell) packets = sum_by-cons (added shape cell) p packets in
    fold-append sum_join (pos s) (values p) (flat_map values packets)
    ∙ ap (λ x. fold sum_join x (flat_map values packets)) (rows_joined p.amount (rows_at shape cell p) s (omega arith))
    ∙ packets_joined shape cell packets (s + added shape cell p) (omega arith)
    ∙ ap pos (omega arith)

-- and once at least, where a row has it
once_at_least : (test : ℕ → Bool) (row : ℕ) → test row ≡ true → (a n : ℕ) → a ≤ row → row < a + n → 1 ≤ length (filter test (range_with_len a n))
once_at_least test row here a zero from to = absurd (omega arith)
once_at_least test row here a (suc n) from to =
    by_test (test a) refl (λ later within. once_at_least test row here (a + 1) n later within) where
      by_test : (b : Bool) → test a ≡ b → (a + 1 ≤ row → row < a + 1 + n → 1 ≤ length (filter test (range_with_len (a + 1) n)))
          → 1 ≤ length (cond b (a ∷ filter test (range_with_len (a + 1) n)) (filter test (range_with_len (a + 1) n)))
      by_test true at_a rest = omega arith
      by_test false not_a rest = elim (eq-or-lt_of_le from) [
        | inl same ↦ absurd (true≢false (sym here ∙ ap test (sym same) ∙ not_a))
        | inr later ↦ rest (omega arith) (omega arith)
      ]

-- the least of numbers that are at least b
least_at_least : (b : ℤ) (f : ℕ → ℤ) (x : ℤ) (a n : ℕ) → b ≤ℤ x → ((row : ℕ) → a ≤ row → row < a + n → b ≤ℤ f row)
    → b ≤ℤ fold int_min x (map f (range_with_len a n))
least_at_least b f x a zero here rest = here
least_at_least b f x a (suc n) here rest =
    least_at_least b f (int_min x (f a)) (a + 1) n (omega (arith, ints, clamps, here, rest a (omega arith) (omega arith)))
    (λ row from to. rest row (omega arith) (omega arith))

least_of_rows : (b : ℤ) (f : ℕ → ℤ) (n : ℕ) → 0 < n → ((row : ℕ) → row < n → b ≤ℤ f row) → b ≤ℤ least_of (map f (range_with_len 0 n))
least_of_rows b f zero some each = absurd (omega arith)
least_of_rows b f (suc n) some each =
    least_at_least b f (f 0) (0 + 1) n (each 0 (omega arith)) (λ row from to. each row (omega arith))

added_least : (shape : Shape) (key : FlowKey) (row : ℕ) → row < shape.rows → (p : Packet)
    → (if same_key p.key key then p.amount else 0) ≤ added shape (cell_of shape key row) p
unfolding added rows_at
added_least shape key row within p = by_test (same_key p.key key) refl where
  by_test : (b : Bool) → same_key p.key key ≡ b → (if b then p.amount else 0) ≤ added shape (cell_of shape key row) p
  by_test true same =
      let test : ℕ → Bool = λ r. cell_of shape p.key r == cell_of shape key row in
      let place : cell_of shape p.key row ≡ cell_of shape key row = ap (λ k. cell_of shape k row) (same_key-eq p.key key same) in
      let here : test row ≡ true = eq-eqb (cell_of shape p.key row) (cell_of shape key row) place in
      let once = mul-le-mul_left p.amount (once_at_least test row here 0 shape.rows (omega arith) (omega arith)) in
      omega arith
  by_test false other = omega arith

pub cell_at_least : (shape : Shape) → IsShape shape → (packets : List Packet) (key : FlowKey) (row : ℕ) → row < shape.rows → total_amount packets < 2 ^ 63
    → pos (key_amount packets key) ≤ℤ sequential (sums count_min_value count_min_estimate) shape packets (cell_of shape key row)
unfolding key_amount total_amount sequential cell_values
cell_at_least shape lawful packets key row within total =
    let cell = cell_of shape key row in
    let most : sum_by (added shape cell) packets ≤ sum_by (λ p. p.amount) packets =
    sum_by-le-sum_by (added shape cell) (λ p. p.amount) packets (added_most shape lawful cell) in
    let least : key_amount packets key ≤ sum_by (added shape cell) packets =
    sum_by-le-sum_by (λ p. if same_key p.key key then p.amount else 0) (added shape cell) packets (added_least shape key row within) in
    let whole = packets_joined shape cell packets 0 (omega arith) in
    subst (λ x. pos (key_amount packets key) ≤ℤ x) (sym whole) (omega (arith, ints))

pub never_below : (shape : Shape) → IsShape shape → (packets : List Packet) (key : FlowKey) → total_amount packets < 2 ^ 63
    → pos (key_amount packets key) ≤ℤ count_min_estimate shape (sequential_table (sums count_min_value count_min_estimate) shape packets).cells key
unfolding count_min_estimate key_cells sequential_table
never_below shape lawful packets key total =
    let rules = sums count_min_value count_min_estimate in
    let cells = map (sequential rules shape packets) (range_with_len 0 (size_of shape)) in
    let each : (row : ℕ) → row < shape.rows → pos (key_amount packets key) ≤ℤ value_at cells (cell_of shape key row) = λ row within.
    let place = place_within shape lawful key row within in
    subst (λ x. pos (key_amount packets key) ≤ℤ x)
    (sym (get_or-map-range_with_len (sequential rules shape packets) 0 (size_of shape) (cell_of shape key row) (cell_of shape key row) (pos 0) place (omega arith)))
    (cell_at_least shape lawful packets key row within total) in
    least_of_rows (pos (key_amount packets key)) (λ row. value_at cells (cell_of shape key row)) shape.rows (omega (arith, lawful.some_rows)) each
