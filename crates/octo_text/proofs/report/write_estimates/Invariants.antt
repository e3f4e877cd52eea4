use Rattle.std.proofs.Common.{◌≤◌, take, Ok}
use Rattle.std.specs.List.{flat_map}
use Rattle.flow_base.specs.Writing.{Writes}
use Rattle.flow_base.specs.declared.flow.Failed.{Failed}
use Rattle.octo_text.specs.ReportText.{estimate_line}
use Rattle.octo_text.proofs.report.write_estimates.Given as goal

abbrev pub invariant-loop-flow : goal.invariant-loop-flow
invariant-loop-flow g l =
    Writes {T = Unit {0}} {E = Failed} (g.T.Sink.holds l.initial.out) (g.T.Sink.holds l.out) (flat_map (estimate_line l.name) (take l.flow-index l.flows)) (Ok tt)
    × (g.T.Sink.faults l.initial.out ≤ g.T.Sink.faults l.out)
