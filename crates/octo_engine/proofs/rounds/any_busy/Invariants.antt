use Rattle.std.proofs.Common.{◌≡◌, false, take}
use Rattle.std.specs.List.{list_any}
use Rattle.octo_engine.specs.Parts.{is_busy_part}
use Rattle.octo_engine.proofs.rounds.any_busy.Given as goal

abbrev pub invariant-loop-part : goal.invariant-loop-part
invariant-loop-part g l = list_any is_busy_part (take l.part-index l.parts) ≡ false
