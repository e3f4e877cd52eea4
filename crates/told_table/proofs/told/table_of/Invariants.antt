use Rattle.std.proofs.Common.{◌≡◌, take}
use Rattle.told_table.specs.Tables.{IsTableOf, all_messages}
use Rattle.told_table.proofs.told.table_of.Given as goal

abbrev pub invariant-loop-list : goal.invariant-loop-list
invariant-loop-list g l = record {
  shape : l.table.shape ≡ l.fn.shape;
  told : IsTableOf g.K.Kind.rules l.table (all_messages (take l.list-index l.lists));
}
