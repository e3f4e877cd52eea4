use Rattle.std.proofs.Common.{◌<◌, ◌++◌, ◌∷◌, [], length, arith}
use Rattle.std.proofs.lemmas.List.{length_push}
use Rattle.aggregate.specs.Takens.{takens}
use Rattle.aggregate.proofs.Kept.{ends_len, ends_within}
use Rattle.aggregate.proofs.Sweeping.{count_next, taken_next}
use Rattle.aggregate.proofs.aggregator.drop_each.Goals as goal

pub loop-place-preserved : goal.loop-place-preserved
loop-place-preserved g c =
    let lanes = c.args.lanes.now in
    let mid = c.loop-place.outs.items in
    let h = c.loop-place.invariant in
    let s = c.drop_lane-taken.ensures.took in
    let all = ends_len lanes c.args.outs.now.items c.requires.ends in
    let inside : c.loop-place.place < length lanes = omega (arith, all, c.len-place-end.ensures, c.loop-place-test.true) in
    let within : c.loop-place.place < length (takens mid) = ends_within lanes mid c.loop-place.place h.ends inside in
    record {
      ends = c.drop_lane-taken.ensures.ends;
      few = omega (arith, h.few, s.2, s.3, c.requires.batch);
      took = (
        h.took.0 ++ s.0 ∷ [],
        taken_next c.args.batch h.took.0 s.0 c.args.outs.now.items mid c.drop_lane-taken.new.outs.items c.loop-place.place h.took.3 within h.took.1 s.2 s.1,
        count_next h.took.0 s.0 c.loop-place.taken c.drop_lane-taken.result h.took.2 s.3,
        omega (arith, h.took.3, length_push h.took.0 s.0),
      );
    }
