use Rattle.std.proofs.Common.{◌<◌, arith, length}
use Rattle.octo_engine.specs.Parts.{RanBlock}
use Rattle.octo_engine.proofs.Places.{written}
use Rattle.octo_engine.proofs.rounds.run_workers_alone.Goals as goal

pub loop-part-preserved : goal.loop-part-preserved
loop-part-preserved g c =
    let lt : c.loop-part.part-index < length c.loop-part.parts = omega (arith, c.loop-part-test.true, c.loop-part.auto.parts) in
    written (RanBlock g.K.Kind.rules g.K.Kind.stands c.args.options.now c.args.packets.now) c.args.parts.now c.loop-part.parts c.loop-part.part-index c.part-item.result c.run_block.new.part lt
    (record { share = c.run_block.ensures.share; sound = c.run_block.ensures.sound; ends = c.run_block.ensures.ends; run = c.run_block.ensures.run }) c.loop-part.invariant.0 c.loop-part.invariant.1
