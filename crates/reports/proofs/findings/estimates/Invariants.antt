use Rattle.std.proofs.Common.{◌≡◌, take, length}
use Rattle.std.specs.Prelude.{map}
use Rattle.reports.specs.ReportOf.{flow_by}
use Rattle.reports.proofs.findings.estimates.Given as goal

abbrev pub invariant-loop-key : goal.invariant-loop-key
invariant-loop-key g l = (l.flows.items ≡ map (flow_by (g.K.Kind.rules.estimate l.fn.table.shape l.fn.table.cells)) (take l.key-index l.fn.keys.items)) × (l.flows.room ≡ length l.fn.keys.items)
