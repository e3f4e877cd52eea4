use Rattle.std.proofs.Common.{arith}
use Rattle.flow_base.proofs.WritingLemmas.{writes_none, writes_item, writes_item_stop, writes_items}
use Rattle.epoch_report.specs.EpochsText.{change_line}
use Rattle.epoch_report.proofs.changes.write_each.Goals as goal

pub loop-change-init : goal.loop-change-init
loop-change-init g c = (writes_none _ tt, omega arith)

pub returns-in_err-write_change-clause-writes : goal.returns-in_err-write_change-clause-writes
returns-in_err-write_change-clause-writes g c =
    writes_item_stop change_line c.args.changes.now c.loop-change.change-index _ c.from_residual.result c.loop-change-test.true c.from_residual.ensures.0 c.loop-change.invariant.0 c.in_err-write_change.ensures.writes

pub loop-change-preserved : goal.loop-change-preserved
loop-change-preserved g c = (
  writes_item change_line c.args.changes.now c.loop-change.change-index _ tt c.loop-change-test.true c.loop-change.invariant.0 c.in_ok-write_change.ensures.writes,
  omega (arith, c.in_ok-write_change.ensures.cause.later),
)

pub returns-clause-writes : goal.returns-clause-writes
returns-clause-writes g c =
    writes_items change_line c.args.changes.now c.loop-change.change-index c.loop-change-test.false (omega arith) c.loop-change.invariant.0
