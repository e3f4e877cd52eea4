use Rattle.std.proofs.Common.{arith}
use Rattle.flow_base.proofs.WritingLemmas.{writes_none, writes_item, writes_item_stop, writes_items}
use Rattle.octo_text.specs.ReportText.{estimate_line}
use Rattle.octo_text.proofs.report.write_estimates.Goals as goal

pub loop-flow-init : goal.loop-flow-init
loop-flow-init g c = (writes_none _ tt, omega arith)

pub returns-in_err-write_estimate-clause-writes : goal.returns-in_err-write_estimate-clause-writes
returns-in_err-write_estimate-clause-writes g c =
    writes_item_stop (estimate_line c.args.name.now) c.args.flows.now c.loop-flow.flow-index _ c.from_residual.result c.loop-flow-test.true c.from_residual.ensures.0 c.loop-flow.invariant.0 c.in_err-write_estimate.ensures.writes

pub loop-flow-preserved : goal.loop-flow-preserved
loop-flow-preserved g c = (
  writes_item (estimate_line c.args.name.now) c.args.flows.now c.loop-flow.flow-index _ tt c.loop-flow-test.true c.loop-flow.invariant.0 c.in_ok-write_estimate.ensures.writes,
  omega (arith, c.in_ok-write_estimate.ensures.cause.later),
)

pub returns-clause-writes : goal.returns-clause-writes
returns-clause-writes g c =
    writes_items (estimate_line c.args.name.now) c.args.flows.now c.loop-flow.flow-index c.loop-flow-test.false (omega arith) c.loop-flow.invariant.0
