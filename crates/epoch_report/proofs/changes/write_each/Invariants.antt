use Rattle.std.proofs.Common.{◌≤◌, take, Ok}
use Rattle.std.specs.List.{flat_map}
use Rattle.flow_base.specs.Writing.{Writes}
use Rattle.flow_base.specs.declared.flow.Failed.{Failed}
use Rattle.epoch_report.specs.EpochsText.{change_line}
use Rattle.epoch_report.proofs.changes.write_each.Given as goal

abbrev pub invariant-loop-change : goal.invariant-loop-change
invariant-loop-change g l =
    Writes {T = Unit {0}} {E = Failed} (g.T.Sink.holds l.initial.out) (g.T.Sink.holds l.out) (flat_map change_line (take l.change-index l.changes)) (Ok tt)
    × (g.T.Sink.faults l.initial.out ≤ g.T.Sink.faults l.out)
