use Rattle.std.proofs.Common.{◌<◌, ◌++◌, ◌∷◌, [], length, ◌∙◌, arith}
use Rattle.std.proofs.lemmas.List.{length_push}
use Rattle.aggregate.specs.Takens.{takens}
use Rattle.aggregate.proofs.Kept.{ends_within}
use Rattle.aggregate.proofs.Sweeping.{more_one}
use Rattle.aggregate.proofs.aggregator.drop_lane.Goals as goal

pub loop-count-preserved : goal.loop-count-preserved
loop-count-preserved g c =
    let h = c.loop-count.invariant in
    let m = c.in-Some.message in
    let lists = takens c.args.outs.now.items in
    let within : c.args.place < length lists = ends_within c.args.lanes.now c.args.outs.now.items c.args.place c.requires.ends c.requires.place in (
      c.in-Some.ensures.ends,
      (
        h.1.0 ++ m ∷ [],
        c.in-Some.ensures.taken ∙ more_one lists (takens c.loop-count.outs.items) c.args.place h.1.0 m within h.1.1,
        omega (arith, h.1.2, length_push h.1.0 m),
      ),
    )
