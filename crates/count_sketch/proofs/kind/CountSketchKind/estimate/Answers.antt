use Rattle.std.proofs.Common.{rules, arith, pos, ◌≡◌, ◌∙◌, ◌<◌, ◌++◌, ◌∷◌, [], ℕ, ℤ, List, sym, ap, ap₂, length, take, map, w64, FitsSigned, to_z, of_z, get_or}
use Rattle.std.specs.List.{range_with_len}
use Rattle.std.proofs.lemmas.Int.{to_z-of_z}
use Rattle.std.proofs.lemmas.List.{take_more_set}
use Rattle.std.proofs.lemmas.List.FromFn.{map-range_with_len_more}
use Rattle.std.proofs.Math.ListN.{length-set}
use Rattle.hash_rows.specs.Shapes.{cell_of}
use Rattle.hash_rows.specs.Sketches.{signed_in_row, signed_cells, lower_median_of, count_sketch_estimate, count_sketch_value}
use Rattle.hash_rows.specs.Rules.{sums}
use Rattle.hash_rows.specs.Tables.{value_at}
use Rattle.hash_rows.proofs.RowLists.{value_at_any}
use Rattle.hash_rows.proofs.SumLaws.{fits_sum, count_sketch_lawful}
use Rattle.count_sketch.proofs.kind.CountSketchKind.estimate.Goals as goal

pub loop-row-preserved : goal.loop-row-preserved
loop-row-preserved c =
    let shape = c.args.shape.now in
    let cells = c.args.cells.now in
    let key = c.args.key.now in
    let row = c.loop-row.row in
    let values = c.loop-row.values in
    let cell = c.cell_in_row-cell.result in
    let hash = c.hash_in_row-hash.ensures key c.key_hash-base.ensures in
    let signed_of : ℕ → ℤ = λ r. signed_in_row key r (value_at cells (cell_of shape key r)) in
    let within : row < length values = omega (arith, c.loop-row.invariant.0) in
    let cell_fits : FitsSigned w64 (value_at cells cell) =
    fits_sum _ (value_at_any (sums count_sketch_value count_sketch_estimate) count_sketch_lawful cells cell c.requires.values) in
    let fits : FitsSigned w64 c.signed.result = search rules in
    let place : cell ≡ cell_of shape key row = c.cell_in_row-cell.ensures.place key hash in
    let cell_is : to_z w64 (of_z w64 (get_or cells cell (pos 0))) ≡ value_at cells (cell_of shape key row) =
    to_z-of_z w64 (value_at cells cell) cell_fits ∙ ap (value_at cells) place in
    let value : to_z w64 (of_z w64 c.signed.result) ≡ signed_of row =
    to_z-of_z w64 c.signed.result fits ∙ c.signed.ensures key row hash ∙ ap (signed_in_row key row) cell_is in (
      length-set values row _ ∙ c.loop-row.invariant.0,
      take_more_set values row _ within
          ∙ ap₂ (λ (xs : List ℤ) (x : ℤ). xs ++ x ∷ []) c.loop-row.invariant.1 value
          ∙ sym (map-range_with_len_more signed_of 0 row row (omega arith)),
    )

pub returns : goal.returns
unfolding count_sketch_estimate signed_cells
returns c =
    let shape = c.args.shape.now in
    let cells = c.args.cells.now in
    let key = c.args.key.now in
    let signed_of : ℕ → ℤ = λ r. signed_in_row key r (value_at cells (cell_of shape key r)) in
    let fits : FitsSigned w64 c.lower_median.result = search rules in
    let all : c.loop-row.row ≡ shape.rows = omega arith in
    let cells_are : take shape.rows c.loop-row.values ≡ map signed_of (range_with_len 0 shape.rows) =
    ap (λ n. take n c.loop-row.values) (sym all) ∙ c.loop-row.invariant.1 ∙ ap (λ n. map signed_of (range_with_len 0 n)) all in
    to_z-of_z w64 c.lower_median.result fits ∙ c.lower_median.ensures.median ∙ ap lower_median_of cells_are
