use Rattle.std.proofs.Common.{◌*◌, ◌<◌, ◌∙◌, length, arith}
use Rattle.heavy_keys.proofs.FoundLemmas.{other_found}
use Rattle.heavy_keys.proofs.candidates.Found.sample.Goals as goal

pub loop-step-preserved : goal.loop-step-preserved
loop-step-preserved g c =
    let below : c.loop-step.step * 256 < length c.args.packets.now = omega (arith, c.loop-step-test.true) in (
      c.in_ok-weigh.ensures.cache ∙ c.loop-step.invariant.0,
      c.in_ok-weigh.ensures.few,
      λ start. other_found _ _ c.args.most c.args.packets.now (c.loop-step.step * 256) c.loop-step.self.buckets.lists.items c.loop-step.self.top.keys below
          c.weigh.new.self.buckets.lists.items c.weigh.new.self.top.keys c.in_ok-weigh.ensures.found (c.loop-step.invariant.2 start),
    )
