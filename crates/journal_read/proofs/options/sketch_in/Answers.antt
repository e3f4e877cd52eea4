use Rattle.std.proofs.Common.{◌∙◌, ◌++◌, ℕ, refl, ap₂, codes, arith}
use Rattle.std.specs.Fmt.{decimal}
use Rattle.hash_rows.specs.declared.shape.Shape.{Shape}
use Rattle.hash_rows.specs.OptionTexts.{amount_text}
use Rattle.journal_read.proofs.Grouped.{sketch_grouped, behind_rows}
use Rattle.journal_read.proofs.options.sketch_in.Goals as goal

pub returns : goal.returns
returns c = λ o rest law is.
    let sketch = c.sketch_behind-sketch.ensures o.sketch (codes " rows " ++ (decimal o.shape.rows ++ behind_rows o.shape o.amount rest)) (is ∙ sketch_grouped o.sketch o.shape o.amount rest) in
    let rows = c.small_behind-rows.ensures o.shape.rows (behind_rows o.shape o.amount rest) (omega (arith, law.shape.rows)) refl sketch.1 in
    let columns = c.small_behind-columns.ensures o.shape.columns (codes " amount " ++ (amount_text o.amount ++ rest)) (omega (arith, law.shape.columns)) refl rows.1 in
    let amount = c.amount_behind-amount.ensures o.amount rest columns.1 in (
      record {
        sketch = sketch.0;
        shape = ap₂ (λ (r k : ℕ). let shape : Shape = record { rows = r; columns = k } in shape) rows.0 columns.0;
        amount = amount.0;
      },
      amount.1,
    )
