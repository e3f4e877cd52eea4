use Rattle.std.proofs.Common.{◌≡◌, take}
use Rattle.std.specs.Prelude.{fold}
use Rattle.std.specs.List.{flat_map}
use Rattle.live_state.specs.Fold.{absorbed}
use Rattle.octo_engine.specs.Parts.{messages_in}
use Rattle.octo_engine.proofs.rounds.fold_round.Given as goal

abbrev pub invariant-loop-part : goal.invariant-loop-part
invariant-loop-part g l = l.state ≡ fold (absorbed g.K.Kind.rules) l.initial.state (flat_map (messages_in l.round) (take l.part-index l.parts))
