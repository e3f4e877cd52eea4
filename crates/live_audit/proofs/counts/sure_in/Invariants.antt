use Rattle.std.proofs.Common.{◌≡◌, ◌≤◌, take, count_by}
use Rattle.push_history.specs.LiveHeavy.{notes_of}
use Rattle.told_table.specs.Tables.{IsTableOf}
use Rattle.live_audit.specs.Counted.{is_sure}
use Rattle.live_audit.proofs.counts.sure_in.Given as goal

abbrev pub invariant-loop-message : goal.invariant-loop-message
invariant-loop-message g l = record {
  shape : l.table.shape ≡ l.initial.table.shape;
  told : IsTableOf g.K.Kind.rules l.table (take l.message-index l.messages);
  count : l.count ≡ count_by (is_sure l.least l.live) (notes_of g.K.Kind.rules l.initial.table.shape (take l.message-index l.messages));
  most : l.count ≤ l.message-index;
}
