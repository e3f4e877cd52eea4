use Rattle.std.proofs.Common.{◌≡◌, take}
use Rattle.std.specs.Prelude.{fold}
use Rattle.live_state.specs.Fold.{absorbed}
use Rattle.live_audit.proofs.alone.fold_list.Given as goal

abbrev pub invariant-loop-message : goal.invariant-loop-message
invariant-loop-message g l = l.state ≡ fold (absorbed g.K.Kind.rules) l.initial.state (take l.message-index l.messages)
