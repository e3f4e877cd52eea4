use Rattle.std.proofs.Common.{◌≤◌, take, Ok}
use Rattle.std.specs.List.{flat_map, enumerate_from}
use Rattle.flow_base.specs.Writing.{Writes}
use Rattle.flow_base.specs.declared.flow.Failed.{Failed}
use Rattle.octo_text.specs.ReportText.{row_line}
use Rattle.octo_text.proofs.report.write_rows.Given as goal

abbrev pub invariant-loop-row : goal.invariant-loop-row
invariant-loop-row g l =
    Writes {T = Unit {0}} {E = Failed} (g.T.Sink.holds l.initial.out) (g.T.Sink.holds l.out) (flat_map row_line (take l.row (enumerate_from 0 l.used))) (Ok tt)
    × (g.T.Sink.faults l.initial.out ≤ g.T.Sink.faults l.out)
