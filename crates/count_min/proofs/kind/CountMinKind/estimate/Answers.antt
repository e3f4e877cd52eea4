use Rattle.std.proofs.Common.{rules, pos, true, ◌≡◌, ◌∙◌, ℕ, ℤ, arith, w64, FitsSigned, to_z, of_z, get_or, ap, subst, sym, ◌≤ℤ◌, map, fold, ◌<◌}
use Rattle.std.specs.Int.{int_min}
use Rattle.std.specs.List.{range_with_len}
use Rattle.std.proofs.lemmas.Int.{to_z-of_z}
use Rattle.hash_rows.specs.Amounts.{key_amount}
use Rattle.hash_rows.specs.Shapes.{cell_of}
use Rattle.hash_rows.specs.Sketches.{is_sum, key_cells, count_min_estimate, count_min_value}
use Rattle.hash_rows.specs.Rules.{sums}
use Rattle.hash_rows.specs.Tables.{value_at}
use Rattle.hash_rows.proofs.RowLists.{row_folded, least_from_top, value_at_any}
use Rattle.hash_rows.proofs.SumLaws.{fits_sum, count_min_lawful}
use Rattle.count_min.proofs.NeverBelow.{never_below}
use Rattle.count_min.proofs.kind.CountMinKind.estimate.Goals as goal

pub loop-row-preserved : goal.loop-row-preserved
loop-row-preserved c =
    let shape = c.args.shape.now in
    let cells = c.args.cells.now in
    let key = c.args.key.now in
    let row = c.loop-row.row in
    let cell = c.cell_in_row-cell.result in
    let hash = c.hash_in_row.ensures key c.key_hash-base.ensures in
    let place : cell ≡ cell_of shape key row = c.cell_in_row-cell.ensures.place key hash in
    let fits : FitsSigned w64 (value_at cells cell) =
    fits_sum _ (value_at_any (sums count_min_value count_min_estimate) count_min_lawful cells cell c.requires.values) in
    let least : FitsSigned w64 c.min-least.result = search rules in
    let value : to_z w64 (of_z w64 (get_or cells cell (pos 0))) ≡ value_at cells (cell_of shape key row) =
    to_z-of_z w64 (value_at cells cell) fits ∙ ap (value_at cells) place in
    row_folded int_min (pos 9223372036854775807) (λ r. value_at cells (cell_of shape key r)) row _ _ _
    c.loop-row.invariant value (to_z-of_z w64 c.min-least.result least ∙ c.min-least.ensures.value)

pub returns-clause-exact : goal.returns-clause-exact
unfolding count_min_estimate key_cells
returns-clause-exact c =
    let shape = c.args.shape.now in
    let cells = c.args.cells.now in
    let key = c.args.key.now in
    let value_of : ℕ → ℤ = λ r. value_at cells (cell_of shape key r) in
    let first : is_sum (value_of 0) ≡ true =
    value_at_any (sums count_min_value count_min_estimate) count_min_lawful cells (cell_of shape key 0) c.requires.values in
    let some : 0 < shape.rows = omega arith in
    let all : c.loop-row.row ≡ shape.rows = omega arith in
    c.loop-row.invariant
    ∙ ap (λ n. fold int_min (pos 9223372036854775807) (map value_of (range_with_len 0 n))) all
    ∙ least_from_top value_of shape.rows some first

pub returns-clause-never_below : goal.returns-clause-never_below
returns-clause-never_below c = λ packets total whole.
    subst (λ x. pos (key_amount packets c.args.key.now) ≤ℤ x) (sym (returns-clause-exact c ∙ ap (λ cells. count_min_estimate c.args.shape.now cells c.args.key.now) whole))
    (never_below c.args.shape.now c.requires.shape packets c.args.key.now total)
