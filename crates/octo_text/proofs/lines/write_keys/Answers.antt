use Rattle.std.proofs.Common.{arith}
use Rattle.flow_base.proofs.WritingLemmas.{writes_none, writes_item, writes_item_stop, writes_items}
use Rattle.octo_text.specs.Lines.{key_line}
use Rattle.octo_text.proofs.lines.write_keys.Goals as goal

pub loop-key-init : goal.loop-key-init
loop-key-init g c = (writes_none _ tt, omega arith)

pub returns-in_err-write_key-clause-writes : goal.returns-in_err-write_key-clause-writes
returns-in_err-write_key-clause-writes g c =
    writes_item_stop (key_line c.args.name.now) c.args.keys.now c.loop-key.key-index _ c.from_residual.result c.loop-key-test.true c.from_residual.ensures.0 c.loop-key.invariant.0 c.in_err-write_key.ensures.writes

pub loop-key-preserved : goal.loop-key-preserved
loop-key-preserved g c = (
  writes_item (key_line c.args.name.now) c.args.keys.now c.loop-key.key-index _ tt c.loop-key-test.true c.loop-key.invariant.0 c.in_ok-write_key.ensures.writes,
  omega (arith, c.in_ok-write_key.ensures.cause.later),
)

pub returns-clause-writes : goal.returns-clause-writes
returns-clause-writes g c =
    writes_items (key_line c.args.name.now) c.args.keys.now c.loop-key.key-index c.loop-key-test.false (omega arith) c.loop-key.invariant.0
