use Rattle.std.proofs.Common.{◌≡◌, ◌<◌, ◌++◌, ◌∷◌, [], length, refl, ap, ◌∙◌, arith, rules, true}
use Rattle.live_state.specs.Fold.{fits}
use Rattle.thread_ends.specs.Ends.{HasAll, KeepsPublished, LacksLast, kept_in}
use Rattle.thread_ends.proofs.Drained.{at_err, it_fits, keep_len, keep_self, keep_then, kept_more, kept_same, others_stay, same_self, same_then, taken_one}
use Rattle.thread_ends.proofs.draining.drain_lane.Goals as goal

pub loop-init : goal.loop-init
loop-init g c = record {
  same = same_self c.args.writer.now;
  kept = keep_self c.args.passes.now.items;
  order = c.requires.order;
  taken = λ was. was;
  others = λ k apart. refl;
}

pub drain_at-requires : goal.drain_at-requires
drain_at-requires g c =
    let h = c.loop.invariant in
    record {
      ids = h.kept.ids ∙ c.requires.ids;
      place = omega (arith, c.requires.place, keep_len c.args.passes.now.items c.loop.passes.items h.kept);
      order = h.order;
    }

pub append-requires : goal.append-requires
append-requires g c =
    let h = c.loop.invariant in
    let d = c.drain_at.ensures in
    let start = c.args.passes.now.items in
    let a = c.loop.passes.items in
    let m = c.in-Some-drain_at.message in
    let within : c.args.place < length a = omega (arith, c.requires.place, keep_len start a h.kept) in
    let fit : fits g.K.Kind.rules c.loop.writer.layout m ≡ true =
    it_fits a c.drain_at.new.passes.items c.args.place m within d.kept c.in-Some-drain_at.ensures.taken g.K.Kind.rules start c.args.writer.now c.loop.writer h.kept h.same c.requires.named d.order in
    search (rules, fit)

pub loop-preserved : goal.loop-preserved
loop-preserved g c =
    let h = c.loop.invariant in
    let d = c.drain_at.ensures in
    let e = c.append.ensures.same in
    let start = c.args.passes.now.items in
    let a = c.loop.passes.items in
    let b = c.drain_at.new.passes.items in
    let v = c.loop.writer in
    let w = c.append.new.self in
    let m = c.in-Some-drain_at.message in
    let took = c.in-Some-drain_at.ensures.taken in
    let within : c.args.place < length a = omega (arith, c.requires.place, keep_len start a h.kept) in
    let step : KeepsPublished v w = record { book = e.0; layout = e.1; published = e.2 } in
    record {
      same = same_then c.args.writer.now v w h.same step;
      kept = keep_then start a b h.kept d.kept;
      order = d.order;
      taken = λ was. taken_one a b c.args.place m within d.kept took g.K.Kind.rules start c.args.writer.now v h.kept h.same c.requires.named d.order w (kept_in w) (h.taken was) e.1
          (kept_more v w m e.2 c.in_ok-append.ensures.pending);
      others = λ k apart. others_stay a b c.args.place m within d.kept took k apart ∙ h.others k apart;
    }

pub returns-in_err-append-clause-lost : goal.returns-in_err-append-clause-lost
returns-in_err-append-clause-lost g c =
    let h = c.loop.invariant in
    let d = c.drain_at.ensures in
    let e = c.append.ensures.same in
    let start = c.args.passes.now.items in
    let a = c.loop.passes.items in
    let b = c.drain_at.new.passes.items in
    let v = c.loop.writer in
    let w = c.append.new.self in
    let m = c.in-Some-drain_at.message in
    let took = c.in-Some-drain_at.ensures.taken in
    let within : c.args.place < length a = omega (arith, c.requires.place, keep_len start a h.kept) in
    let lost : HasAll g.K.Kind.rules c.args.passes.now.items c.args.writer.now → LacksLast g.K.Kind.rules b w =
    λ was. (
      m,
      taken_one a b c.args.place m within d.kept took g.K.Kind.rules start c.args.writer.now v h.kept h.same c.requires.named d.order w (kept_in w ++ m ∷ []) (h.taken was) e.1
          (ap (λ l. l ++ m ∷ []) (kept_same v w e.2 c.in_err-append.ensures.pending)),
    ) in
    at_err (HasAll g.K.Kind.rules c.args.passes.now.items c.args.writer.now → LacksLast g.K.Kind.rules b w) c.from_residual.result lost
