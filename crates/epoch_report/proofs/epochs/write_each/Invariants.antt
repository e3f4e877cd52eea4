use Rattle.std.proofs.Common.{◌≤◌, take, Ok}
use Rattle.std.specs.List.{flat_map, enumerate_from}
use Rattle.flow_base.specs.Writing.{Writes}
use Rattle.flow_base.specs.declared.flow.Failed.{Failed}
use Rattle.epoch_report.specs.EpochsText.{epoch_lines}
use Rattle.epoch_report.proofs.epochs.write_each.Given as goal

abbrev pub invariant-loop-number : goal.invariant-loop-number
invariant-loop-number g l =
    Writes {T = Unit {0}} {E = Failed} (g.T.Sink.holds l.initial.out) (g.T.Sink.holds l.out) (flat_map epoch_lines (take l.number (enumerate_from 0 l.epochs))) (Ok tt)
    × (g.T.Sink.faults l.initial.out ≤ g.T.Sink.faults l.out)
