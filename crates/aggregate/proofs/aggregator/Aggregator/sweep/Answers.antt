use Rattle.std.proofs.Common.{rules, ◌≡◌, ◌<◌, ◌≤◌, ◌++◌, ◌∷◌, [], List, length, ap, ◌∙◌, arith}
use Rattle.std.specs.Prelude.{IfOk}
use Rattle.std.proofs.lemmas.List.{length_push}
use Rattle.push_lane.specs.Views.{OutView}
use Rattle.aggregate.specs.Sweeps.{AggregatorView, in_order}
use Rattle.aggregate.specs.Takens.{takens}
use Rattle.aggregate.proofs.Kept.{ends_len, ends_within, has_taken_same, same_then}
use Rattle.aggregate.proofs.Sweeping.{count_next, swept_next}
use Rattle.aggregate.proofs.aggregator.Aggregator.sweep.Goals as goal

pub loop-place-preserved : goal.loop-place-preserved
loop-place-preserved g c =
    let lanes = c.args.lanes.now in
    let mid = c.loop-place.self in
    let h = c.loop-place.invariant in
    let e = c.sweep_lane.ensures in
    let s = c.in_ok-taken.ensures.swept in
    let all = ends_len lanes c.args.self.now.outs c.requires.ends in
    let kept = ap (λ (o : List OutView). length o) c.keep_held.ensures.outs in
    let view = ap (λ (x : AggregatorView). length x.outs) c.self.view_is in
    let inside : c.loop-place.place < length lanes = omega (arith, all, kept, view, c.len-place-end.ensures, c.loop-place-test.true) in
    let within : c.loop-place.place < length (takens mid.outs) = ends_within lanes mid.outs c.loop-place.place h.ends inside in
    let few : length s.0 ≤ c.args.self.now.batch = omega (arith, s.2, h.same.batch) in
    record {
      ends = e.ends;
      same = same_then _ mid c.sweep_lane.new.self h.same e.same;
      few = omega (arith, h.few, c.in_ok-taken.ensures.count);
      held = c.in_ok-taken.ensures.held;
      published = e.published ∙ h.published;
      swept = (
        h.swept.0 ++ s.0 ∷ [],
        swept_next g.K.Kind.rules h.swept.0 s.0 c.args.self.now mid c.sweep_lane.new.self c.loop-place.place h.swept.3 within h.swept.1 h.same.layout few s.1,
        count_next h.swept.0 s.0 c.loop-place.taken c.in_ok-taken.field-0 h.swept.2 s.3,
        omega (arith, h.swept.3, length_push h.swept.0 s.0),
      );
      taken = λ was. e.taken (h.taken was);
    }

pub returns-in_err-taken-clause-swept : goal.returns-in_err-taken-clause-swept
returns-in_err-taken-clause-swept g c =
    let lanes = c.args.lanes.now in
    let mid = c.loop-place.self in
    let h = c.loop-place.invariant in
    let s = c.sweep_lane.ensures.swept in
    let all = ends_len lanes c.args.self.now.outs c.requires.ends in
    let kept = ap (λ (o : List OutView). length o) c.keep_held.ensures.outs in
    let view = ap (λ (x : AggregatorView). length x.outs) c.self.view_is in
    let inside : c.loop-place.place < length lanes = omega (arith, all, kept, view, c.len-place-end.ensures, c.loop-place-test.true) in
    let within : c.loop-place.place < length (takens mid.outs) = ends_within lanes mid.outs c.loop-place.place h.ends inside in
    let few : length s.0 ≤ c.args.self.now.batch = omega (arith, s.2, h.same.batch) in
    let none : IfOk c.from_residual-in_err-taken.result (λ x. x.taken ≡ length (in_order (h.swept.0 ++ s.0 ∷ []))) = search rules in (
      h.swept.0 ++ s.0 ∷ [],
      swept_next g.K.Kind.rules h.swept.0 s.0 c.args.self.now mid c.sweep_lane.new.self c.loop-place.place h.swept.3 within h.swept.1 h.same.layout few s.1,
      none,
    )

pub returns-in_err-taken-clause-taken : goal.returns-in_err-taken-clause-taken
returns-in_err-taken-clause-taken g c = λ was. c.sweep_lane.ensures.taken (c.loop-place.invariant.taken was)

pub returns-clause-taken : goal.returns-clause-taken
returns-clause-taken g c = λ was.
    let e = c.publish.ensures in
    has_taken_same g.K.Kind.rules c.loop-place.self c.publish.new.self e.same.layout (ap takens e.outs) e.kept (c.loop-place.invariant.taken was)
