use Rattle.std.proofs.Common.{◌≡◌, ◌++◌, List, take}
use Rattle.hash_rows.specs.declared.shape.Push.{Push}
use Rattle.told_table.specs.Tables.{IsTableOf}
use Rattle.told_table.proofs.told.tell_all.Given as goal

abbrev pub invariant-loop-message : goal.invariant-loop-message
invariant-loop-message g l = record {
  shape : l.table.shape ≡ l.initial.table.shape;
  told : (before : List Push) → IsTableOf g.K.Kind.rules l.initial.table before → IsTableOf g.K.Kind.rules l.table (before ++ take l.message-index l.messages);
}
