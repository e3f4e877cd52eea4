use Rattle.std.proofs.Common.{◌≤◌, length, ◌∙◌, arith}
use Rattle.thread_ends.specs.Ends.{HasAll, LacksLast}
use Rattle.thread_ends.proofs.Drained.{at_err, drained_all, drained_next, keep_len, keep_self, keep_then, named_still, same_self, same_then}
use Rattle.thread_ends.proofs.draining.drain_all.Goals as goal

pub loop-place-init : goal.loop-place-init
loop-place-init g c = record {
  same = same_self c.args.writer.now;
  kept = keep_self c.args.passes.now.items;
  order = c.requires.order;
  taken = λ was. was;
  drained = λ k lt. absurd (omega (arith, lt));
}

pub drain_lane-requires-clause-ids : goal.drain_lane-requires-clause-ids
drain_lane-requires-clause-ids g c κs within = c.loop-place.invariant.kept.ids ∙ c.requires.ids

pub drain_lane-requires-clause-place : goal.drain_lane-requires-clause-place
drain_lane-requires-clause-place g c κs within =
    omega (arith, c.loop-place-test.true, c.len-place-end.ensures, keep_len c.args.passes.now.items c.loop-place.passes.items c.loop-place.invariant.kept)

pub drain_lane-requires-clause-named : goal.drain_lane-requires-clause-named
drain_lane-requires-clause-named g c κs within =
    let h = c.loop-place.invariant in
    named_still g.K.Kind.rules c.args.passes.now.items c.loop-place.passes.items c.args.writer.now c.loop-place.writer h.kept h.same c.requires.named

pub loop-place-preserved : goal.loop-place-preserved
loop-place-preserved g c =
    let h = c.loop-place.invariant in
    let d = c.drain_lane.ensures in
    let ok = c.in_ok-drain_lane.ensures in
    let start = c.args.passes.now.items in
    let a = c.loop-place.passes.items in
    let b = c.drain_lane.new.passes.items in
    record {
      same = same_then c.args.writer.now c.loop-place.writer c.drain_lane.new.writer h.same d.same;
      kept = keep_then start a b h.kept d.kept;
      order = d.order;
      taken = λ was. ok.taken (h.taken was);
      drained = drained_next a b c.loop-place.place d.others d.kept ok.drained h.drained;
    }

pub returns-in_err-drain_lane-clause-lost : goal.returns-in_err-drain_lane-clause-lost
returns-in_err-drain_lane-clause-lost g c =
    let lost : HasAll g.K.Kind.rules c.args.passes.now.items c.args.writer.now → LacksLast g.K.Kind.rules c.drain_lane.new.passes.items c.drain_lane.new.writer =
    λ was. c.in_err-drain_lane.ensures.lost (c.loop-place.invariant.taken was) in
    at_err (HasAll g.K.Kind.rules c.args.passes.now.items c.args.writer.now → LacksLast g.K.Kind.rules c.drain_lane.new.passes.items c.drain_lane.new.writer) c.from_residual.result lost

pub returns-clause-drained : goal.returns-clause-drained
returns-clause-drained g c =
    let h = c.loop-place.invariant in
    let all = c.loop-place.passes.items in
    let out : length all ≤ c.loop-place.place = omega (arith, c.loop-place-test.false, c.len-place-end.ensures, keep_len c.args.passes.now.items all h.kept) in
    drained_all all c.loop-place.place out h.drained
