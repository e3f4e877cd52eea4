use Rattle.std.proofs.Common.{take, sym, subst}
use Rattle.std.specs.Prelude.{All}
use Rattle.std.proofs.lemmas.List.{take_all, take_more}
use Rattle.packet_key.specs.KeyText.{IsKey}
use Rattle.journal_whole.proofs.Rows.{all_more}
use Rattle.rounds_audit.proofs.ranges.keys_fit.Goals as goal

pub loop-key-preserved : goal.loop-key-preserved
loop-key-preserved c =
    subst (All IsKey) (sym (take_more c.args.keys.now c.loop-key.key-index _ c.loop-key-test.true))
    (all_more IsKey (take c.loop-key.key-index c.args.keys.now) _ c.loop-key.invariant c.in_range.ensures)

pub returns : goal.returns
returns c = subst (All IsKey) (take_all c.loop-key.key-index c.args.keys.now c.loop-key-test.false) c.loop-key.invariant
