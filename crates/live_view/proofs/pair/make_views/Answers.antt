use Rattle.std.proofs.Common.{rules, ◌≡◌, [], ◌∷◌, ◌++◌, sym, subst, ap, ◌∙◌}
use Rattle.std.specs.Prelude.{All}
use Rattle.std.proofs.lemmas.List.Elements.{All-append, All-cons, All-nil}
use Rattle.logbook.specs.Pages.{Book}
use Rattle.live_state.specs.declared.layout.Layout.{Layout}
use Rattle.live_state.specs.Fold.{StateView, IsStateAfter}
use Rattle.live_view.specs.Views.{WriterView, ReaderView, PublishedView, layout_for}
use Rattle.live_state.proofs.Lists.{one_longer}
use Rattle.live_view.proofs.Turns.{empty, opens}
use Rattle.live_view.proofs.pair.make_views.Goals as goal

pub new-requires-4-clause-rule : goal.new-requires-4-clause-rule
new-requires-4-clause-rule g c = opens g.K.Kind.rules _ (layout_for c.args.shape c.args.workers c.args.heavy c.args.least) (search rules) (search rules)

pub over-writer-requires-clause-zero : goal.over-writer-requires-clause-zero
over-writer-requires-clause-zero g c κs within =
    let figures = ap (λ (p : PublishedView). p.figures) c.in-Ok.ensures.0 ∙ c.in_ok-first.ensures.figures in
    subst (λ (s : StateView). IsStateAfter g.K.Kind.rules s []) (sym figures) (empty g.K.Kind.rules _)

pub loop-preserved : goal.loop-preserved
loop-preserved g c =
    let h = c.loop.invariant in
    let new : Book × Layout → ReaderView → Type 0 = λ p v. (v.book ≡ p.0) × (v.layout ≡ p.1) × (v.known ≡ []) × (v.told ≡ []) in
    let of : WriterView → Book × Layout = λ w. (w.book, w.layout) in
    let P : ReaderView → Type 0 = new (of c.view-view.new.self) in
    let same : of c.loop.writer ≡ of c.view-view.new.self = ap of (sym c.view-view.ensures.same) in
    let old : All P c.loop.views.items = subst (λ (p : Book × Layout). All (new p) c.loop.views.items) same h.6 in
    let v = c.view-view.ensures.view in
    let one : P c.view-view.result = (v.0 ∙ ap (λ p. p.0) same, v.1 ∙ ap (λ p. p.1) same, v.2, v.3) in
    let all : All P (c.loop.views.items ++ c.view-view.result ∷ []) = All-append P c.loop.views.items (c.view-view.result ∷ []) old (All-cons P c.view-view.result [] one (All-nil P)) in
    let kept = c.view-view.ensures.same in (
      one_longer c.loop.views.items c.push.new.self.items c.view-view.result c.loop.counter c.push.ensures.items h.0,
      search rules,
      c.push.ensures.room ∙ h.2,
      ap (λ (w : WriterView). w.published) kept ∙ h.3,
      ap (λ (w : WriterView). w.pending) kept ∙ h.4,
      ap (λ (w : WriterView). w.layout) kept ∙ h.5,
      subst (All P) (sym c.push.ensures.items) all,
    )
