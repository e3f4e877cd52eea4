use Rattle.std.proofs.Common.{rules, ◌≡◌, ◌<◌, ◌≤◌, ◌++◌, ◌∷◌, [], length, refl, sym, subst, ap, ◌∙◌, arith}
use Rattle.std.specs.Prelude.{IfOk}
use Rattle.std.proofs.lemmas.List.{length_push}
use Rattle.aggregate.specs.Sweeps.{HasSweptLane, HasTaken, KeepsPair, AggregatorView}
use Rattle.aggregate.specs.Takens.{ArePassesOf, takens}
use Rattle.aggregate.proofs.Grown.{with_one}
use Rattle.aggregate.proofs.Kept.{ends_within, has_taken_same, same_self, same_then, swept_one}
use Rattle.aggregate.proofs.Sweeping.{lane_more, lane_none}
use Rattle.aggregate.proofs.aggregator.Aggregator.sweep_lane.Goals as goal

pub loop-count-init : goal.loop-count-init
loop-count-init g c = record {
  ends = c.requires.ends;
  same = same_self _;
  count = omega arith;
  held = c.requires.none;
  published = refl;
  swept = ([], lane_none g.K.Kind.rules c.args.place c.args.self.now, refl);
  taken = λ was. was;
}

pub loop-count-preserved : goal.loop-count-preserved
loop-count-preserved g c =
    let first = c.args.self.now in
    let a : AggregatorView = record { writer = c.self.inside.writer; outs = c.self.inside.outs.items; batch = c.self.inside.batch; held = c.self.inside.held } in
    let h = c.loop-count.invariant in
    let e = c.keep.ensures in
    let b = c.keep.new.self in
    let m = c.in-Some.message in
    let view : a ≡ c.loop-count.self = c.self.view_is in
    let ends : ArePassesOf c.args.lanes.now a.outs = subst (λ (s : AggregatorView). ArePassesOf c.args.lanes.now s.outs) (sym view) h.ends in
    let within : c.args.place < length (takens a.outs) = ends_within c.args.lanes.now a.outs c.args.place ends c.requires.place in
    let inside : c.args.place < length (takens first.outs) = ends_within c.args.lanes.now first.outs c.args.place c.requires.ends c.requires.place in
    let outs : takens b.outs ≡ with_one (takens a.outs) c.args.place m = ap takens e.outs ∙ c.in-Some.ensures.taken in
    let step : KeepsPair a b = record { book = e.same.book; layout = e.same.layout; batch = e.same.batch } in
    let more : c.loop-count.count < a.batch = c.loop-count-test.true in
    let layout : a.writer.layout ≡ first.writer.layout = ap (λ (s : AggregatorView). s.writer.layout) view ∙ h.same.layout in
    let lane : HasSweptLane g.K.Kind.rules c.args.place h.swept.0 first a = subst (λ (s : AggregatorView). HasSweptLane g.K.Kind.rules c.args.place h.swept.0 first s) (sym view) h.swept.1 in
    record {
      ends = subst (ArePassesOf c.args.lanes.now) (sym e.outs) c.in-Some.ensures.ends;
      same = same_then _ c.loop-count.self b h.same (subst (λ (s : AggregatorView). KeepsPair s b) view step);
      count = omega (arith, more, e.same.batch);
      held = c.in_ok-keep.ensures.held;
      published = e.published ∙ ap (λ (s : AggregatorView). s.writer.published) view ∙ h.published;
      swept = (h.swept.0 ++ m ∷ [], lane_more g.K.Kind.rules c.args.place h.swept.0 m first a b inside lane layout outs e.kept, omega (arith, h.swept.2, length_push h.swept.0 m));
      taken = λ was. swept_one g.K.Kind.rules a b c.args.place m within e.same.layout outs e.kept (subst (HasTaken g.K.Kind.rules) (sym view) (h.taken was));
    }

pub returns-in_err-keep-clause-taken : goal.returns-in_err-keep-clause-taken
returns-in_err-keep-clause-taken g c = λ was.
    let a : AggregatorView = record { writer = c.self.inside.writer; outs = c.self.inside.outs.items; batch = c.self.inside.batch; held = c.self.inside.held } in
    let h = c.loop-count.invariant in
    let e = c.keep.ensures in
    let b = c.keep.new.self in
    let view : a ≡ c.loop-count.self = c.self.view_is in
    let ends : ArePassesOf c.args.lanes.now a.outs = subst (λ (s : AggregatorView). ArePassesOf c.args.lanes.now s.outs) (sym view) h.ends in
    let within : c.args.place < length (takens a.outs) = ends_within c.args.lanes.now a.outs c.args.place ends c.requires.place in
    let outs : takens b.outs ≡ with_one (takens a.outs) c.args.place c.in-Some.message = ap takens e.outs ∙ c.in-Some.ensures.taken in
    swept_one g.K.Kind.rules a b c.args.place c.in-Some.message within e.same.layout outs e.kept (subst (HasTaken g.K.Kind.rules) (sym view) (h.taken was))

pub returns-in_default-clause-taken : goal.returns-in_default-clause-taken
returns-in_default-clause-taken g c = λ was.
    let a : AggregatorView = record { writer = c.self.inside.writer; outs = c.self.inside.outs.items; batch = c.self.inside.batch; held = c.self.inside.held } in
    let b : AggregatorView = record { writer = c.self.inside.writer; outs = c.take_at.new.outs.items; batch = c.self.inside.batch; held = c.self.inside.held } in
    let same : takens b.outs ≡ takens a.outs = search rules in
    has_taken_same g.K.Kind.rules a b refl same refl (subst (HasTaken g.K.Kind.rules) (sym c.self.view_is) (c.loop-count.invariant.taken was))

pub returns-in_err-keep-clause-swept : goal.returns-in_err-keep-clause-swept
returns-in_err-keep-clause-swept g c =
    let first = c.args.self.now in
    let a : AggregatorView = record { writer = c.self.inside.writer; outs = c.self.inside.outs.items; batch = c.self.inside.batch; held = c.self.inside.held } in
    let h = c.loop-count.invariant in
    let e = c.keep.ensures in
    let b = c.keep.new.self in
    let m = c.in-Some.message in
    let view : a ≡ c.loop-count.self = c.self.view_is in
    let inside : c.args.place < length (takens first.outs) = ends_within c.args.lanes.now first.outs c.args.place c.requires.ends c.requires.place in
    let outs : takens b.outs ≡ with_one (takens a.outs) c.args.place m = ap takens e.outs ∙ c.in-Some.ensures.taken in
    let more : c.loop-count.count < a.batch = c.loop-count-test.true in
    let layout : a.writer.layout ≡ first.writer.layout = ap (λ (s : AggregatorView). s.writer.layout) view ∙ h.same.layout in
    let lane : HasSweptLane g.K.Kind.rules c.args.place h.swept.0 first a = subst (λ (s : AggregatorView). HasSweptLane g.K.Kind.rules c.args.place h.swept.0 first s) (sym view) h.swept.1 in
    let batch : a.batch ≡ first.batch = ap (λ (s : AggregatorView). s.batch) view ∙ h.same.batch in
    let few : length (h.swept.0 ++ m ∷ []) ≤ first.batch = omega (arith, more, batch, h.swept.2, length_push h.swept.0 m) in
    let none : IfOk c.from_residual.result (λ n. n ≡ length (h.swept.0 ++ m ∷ [])) = search rules in
    (h.swept.0 ++ m ∷ [], lane_more g.K.Kind.rules c.args.place h.swept.0 m first a b inside lane layout outs e.kept, few, none)
