-- Amounts that are summed up in a cell of a Count-Min, as plain numbers.
use Rattle.std.proofs.Common.{◌≡◌, ◌<◌, ◌≤◌, ◌+◌, ◌*◌, ◌/◌, ◌^◌, ◌+ℤ◌, ◌==◌, ℕ, ℤ, pos, zero, suc, Bool, true, false, cond, List, [], ◌∷◌, length, filter, refl, sym, ap, subst, ◌∙◌, arith}
use Rattle.std.specs.Int.{int_wrap, w64}
use Rattle.std.specs.List.{range_with_len}
use Rattle.std.proofs.lemmas.Bool.{eqb-true}
use Rattle.std.proofs.lemmas.Int.{int_wrap_fits, ints}
use Rattle.std.proofs.Math.Nat.{mul-le-mul_left}
use Rattle.hash_rows.specs.declared.shape.Shape.{Shape}
use Rattle.hash_rows.specs.declared.shape.Packet.{Packet}
use Rattle.hash_rows.specs.Shapes.{IsShape, cell_of}
use Rattle.hash_rows.specs.Sketches.{is_sum, sum_join, rows_of}
use Rattle.hash_rows.proofs.Places.{row_of_place}
use Rattle.hash_rows.proofs.SumLaws.{sum_join_is, fits_sum}

-- a sum of amounts that doesn't reach 2 ^ 63 is the sum
pub amount_sum : (n : ℕ) → n < 2 ^ 63 → is_sum (pos n) ≡ true
amount_sum n small = grind arith

pub join_amounts : (s n : ℕ) → s + n < 2 ^ 63 → sum_join (pos s) (pos n) ≡ pos (s + n)
join_amounts s n small =
    let whole : pos s +ℤ pos n ≡ pos (s + n) = omega (arith, ints) in
    sum_join_is (pos s) (pos n) (amount_sum s (omega arith)) (amount_sum n (omega arith))
    ∙ ap (int_wrap w64) whole ∙ int_wrap_fits w64 (pos (s + n)) (fits_sum (pos (s + n)) (amount_sum (s + n) small))

-- the rows in which the packet's key has the cell
unfoldable pub rows_at : Shape → ℕ → Packet → List ℕ
rows_at shape cell packet = filter (λ row. cell_of shape packet.key row == cell) (rows_of shape)

-- what the packet adds to the cell
unfoldable pub added : Shape → ℕ → Packet → ℕ
added shape cell packet = packet.amount * length (rows_at shape cell packet)

-- the cell of a row gets a packet's amount once at most
none_above : (test : ℕ → Bool) (only : ℕ) → ((row : ℕ) → test row ≡ true → row ≡ only) → (a n : ℕ) → only < a → filter test (range_with_len a n) ≡ []
none_above test only says a zero above = refl
none_above test only says a (suc n) above = by_test (test a) refl (none_above test only says (a + 1) n (omega arith)) where
  by_test : (b : Bool) → test a ≡ b → filter test (range_with_len (a + 1) n) ≡ [] → filter test (range_with_len a (suc n)) ≡ []
  by_test true here rest = absurd (omega (arith, says a here))
  by_test false here rest = ap (λ b. cond b (a ∷ filter test (range_with_len (a + 1) n)) (filter test (range_with_len (a + 1) n))) here ∙ rest

pub once_at_most : (test : ℕ → Bool) (only : ℕ) → ((row : ℕ) → test row ≡ true → row ≡ only) → (a n : ℕ) → length (filter test (range_with_len a n)) ≤ 1
once_at_most test only says a zero = omega arith
once_at_most test only says a (suc n) = by_test (test a) refl (once_at_most test only says (a + 1) n) where
  by_test : (b : Bool) → test a ≡ b → length (filter test (range_with_len (a + 1) n)) ≤ 1 → length (filter test (range_with_len a (suc n))) ≤ 1
  by_test true here rest =
      let past : only < a + 1 = omega (arith, says a here) in
      let one : length (filter test (range_with_len a (suc n))) ≡ 1 =
      ap length (ap (λ b. cond b (a ∷ filter test (range_with_len (a + 1) n)) (filter test (range_with_len (a + 1) n))) here
      ∙ ap (λ xs. a ∷ xs) (none_above test only says (a + 1) n past)) in
      omega arith
  by_test false here rest =
      subst (λ b. length (cond b (a ∷ filter test (range_with_len (a + 1) n)) (filter test (range_with_len (a + 1) n))) ≤ 1) (sym here) rest

-- what a packet adds to a cell of the key
pub added_most : (shape : Shape) → IsShape shape → (cell : ℕ) (p : Packet) → added shape cell p ≤ p.amount
unfolding added rows_at
added_most shape lawful cell p =
    let test : ℕ → Bool = λ row. cell_of shape p.key row == cell in
    let says : (row : ℕ) → test row ≡ true → row ≡ cell / shape.columns =
    λ row here. sym (row_of_place shape lawful p.key row) ∙ ap (λ c. c / shape.columns) (eqb-true (cell_of shape p.key row) cell here) in
    let once = mul-le-mul_left p.amount (once_at_most test (cell / shape.columns) says 0 shape.rows) in
    omega arith
