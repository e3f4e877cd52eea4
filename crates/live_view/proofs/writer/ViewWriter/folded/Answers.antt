use Rattle.std.proofs.Common.{◌<◌, ℕ, sym, subst, ap, ◌∙◌, length}
use Rattle.live_view.specs.Views.{PublishedView}
use Rattle.live_state.specs.Fold.{most}
use Rattle.live_view.specs.declared.rule.Notes.{Notes}
use Rattle.live_view.proofs.Writers.{counted, short}
use Rattle.live_view.proofs.writer.ViewWriter.folded.Goals as goal

pub returns-clause-length : goal.returns-clause-length
returns-clause-length g c =
    let h = c.self.invariant.0 in
    let found = c.folded.ensures ∙ (c.tally.ensures.folded ∙ (ap (λ (p : PublishedView). p.figures.folded) c.published.ensures ∙ counted g.K.Kind.rules _ _ _ _ h)) in
    found ∙ (ap (λ (v : Notes). length v.known) (sym h.seat_is) ∙ ap (λ d. length d.published) c.self.view_is)

pub returns-clause-room : goal.returns-clause-room
returns-clause-room g c =
    let h = c.self.invariant.0 in
    let found = c.folded.ensures ∙ (c.tally.ensures.folded ∙ (ap (λ (p : PublishedView). p.figures.folded) c.published.ensures ∙ counted g.K.Kind.rules _ _ _ _ h)) in
    subst (λ (n : ℕ). n < most) (sym found) (short g.K.Kind.rules _ _ _ _ h)
