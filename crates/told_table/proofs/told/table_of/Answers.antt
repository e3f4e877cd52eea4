use Rattle.std.proofs.Common.{[], ap, ◌∙◌, sym}
use Rattle.hash_rows.specs.declared.shape.Shape.{Shape}
use Rattle.push_history.specs.Shown.{told_cells}
use Rattle.push_history.proofs.MoreMessages.{cells_none}
use Rattle.told_table.proofs.told.table_of.Goals as goal

pub loop-list-init : goal.loop-list-init
loop-list-init g c =
    let none = c.in_ok-table.ensures.zeros ∙ cells_none g.K.Kind.rules c.args.shape
    ∙ ap (λ (s : Shape). told_cells g.K.Kind.rules s []) (sym c.in_ok-table.ensures.shape) in
    record { shape = c.in_ok-table.ensures.shape; told = none }
