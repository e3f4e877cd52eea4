use Rattle.std.proofs.Common.{◌≡◌, take}
use Rattle.live_state.specs.Fold.{state_after, layout_in}
use Rattle.told_table.specs.Tables.{all_messages}
use Rattle.live_audit.proofs.alone.state_of.Given as goal

abbrev pub invariant-loop-list : goal.invariant-loop-list
invariant-loop-list g l = l.state ≡ state_after g.K.Kind.rules (layout_in l.options) (all_messages (take l.list-index l.lists))
