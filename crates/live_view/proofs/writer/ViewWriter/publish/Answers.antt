use Rattle.std.proofs.Common.{ap, ◌∙◌, drop, sym, ◌++◌}
use Rattle.live_view.specs.Views.{PublishedView}
use Rattle.live_view.proofs.Writers.{published, grown}
use Rattle.live_view.proofs.Turns.{turned_all, same_layout}
use Rattle.live_view.proofs.writer.ViewWriter.publish.Goals as goal

pub invariant_of-self : goal.invariant_of-self
invariant_of-self g c =
    let w = c.self.inside.writer in
    let p = c.publish_in.ensures in (
      published g.K.Kind.rules w.desk.shown.value _ _ _ (drop w.behind w.log.items) _ _ c.self.invariant.0 p.shown p.seat p.pending,
      c.self.invariant.1 ∙ sym (same_layout g.K.Kind.rules w.desk.shown.value _ (drop w.behind w.log.items) c.self.invariant.0.chain p.shown),
    )

pub returns-clause-pair : goal.returns-clause-pair
returns-clause-pair g c =
    let w = c.self.inside.writer in
    let h = c.self.invariant.0 in
    let p = c.publish_in.ensures in
    let all = p.shown ∙ turned_all g.K.Kind.rules w.desk.shown.value (drop w.behind w.log.items) h.chain in
    (ap (λ (x : PublishedView). x.history.book) all ∙ ap (λ d. d.book) c.self.view_is, same_layout g.K.Kind.rules w.desk.shown.value _ (drop w.behind w.log.items) h.chain p.shown ∙ ap (λ d. d.layout) c.self.view_is)

pub returns-clause-published : goal.returns-clause-published
returns-clause-published g c =
    let w = c.self.inside.writer in
    let p = c.publish_in.ensures in
    grown g.K.Kind.rules w.desk.shown.value _ _ _ (drop w.behind w.log.items) _ c.self.invariant.0 p.shown p.seat ∙ ap (λ d. d.published ++ d.pending) c.self.view_is
