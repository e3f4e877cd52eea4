use Rattle.std.proofs.Common.{◌≡◌, length, map, take}
use Rattle.epoch_run.specs.Changes.{change_by, estimates_of}
use Rattle.epoch_run.proofs.changed.changes_of.Given as goal

abbrev pub invariant-loop-flow : goal.invariant-loop-flow
invariant-loop-flow l = record {
  items : l.changes.items ≡ map (change_by (estimates_of l.fn.old) (estimates_of l.fn.new)) (take l.flow-index l.fn.flows.items);
  room : l.changes.room ≡ length l.fn.flows.items;
}
