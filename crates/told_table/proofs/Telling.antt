-- One message more, in a table.
use Rattle.std.proofs.Common.{◌≡◌, ◌<◌, ◌++◌, ◌∷◌, List, [], ap, sym, ◌∙◌}
use Rattle.hash_rows.specs.declared.shape.Push.{Push}
use Rattle.hash_rows.specs.Rules.{Rules}
use Rattle.hash_rows.specs.Shapes.{size_of}
use Rattle.hash_rows.specs.Tables.{TableView, put_in}
use Rattle.push_history.specs.Shown.{told_cells}
use Rattle.push_history.proofs.MoreMessages.{cells_more}
use Rattle.told_table.specs.Tables.{IsTableOf}

pub one_told : (r : Rules) (before : List Push) (m : Push) (old new : TableView) → new ≡ put_in r.join old m.cell m.amount → m.cell < size_of old.shape
    → IsTableOf r old before → IsTableOf r new (before ++ m ∷ [])
one_told r before m old new is inside told =
    ap (λ (t : TableView). t.cells) is ∙ cells_more r old.shape before m old.cells told inside
    ∙ ap (λ (t : TableView). told_cells r t.shape (before ++ m ∷ [])) (sym is)
