use Rattle.std.proofs.Common.{refl, ap, ◌∙◌, sym, ◌≡◌, true}
use Rattle.left_right.specs.Sides.{view}
use Rattle.live_state.specs.Fold.{fits, layout_of}
use Rattle.live_view.proofs.Writers.{appended}
use Rattle.live_view.proofs.writer.ViewWriter.append.Goals as goal

pub invariant_of-self-2 : goal.invariant_of-self-2
invariant_of-self-2 g c =
    let h = c.self.invariant in
    let desk = c.append.ensures.desk in
    let fit : fits g.K.Kind.rules (layout_of c.self.inside.writer.desk.shown.value.figures) c.args.message ≡ true = ap (λ d. fits g.K.Kind.rules d.layout c.args.message) c.self.view_is ∙ c.requires in (
      appended g.K.Kind.rules _ _ _ _ _ _ c.self.inside.history_writer _ (record { message = c.args.message; prefix = c.again.result }) h.0 (ap (λ d. d.shown.value) desk) (ap (λ d. view d.place) desk) c.in-Ok.ensures.pending fit
          c.again.ensures c.if-not-ready.ensures.ready.1 c.ready.ensures.count.0 c.ready.ensures.count.1 refl,
      h.1 ∙ sym (ap (λ d. layout_of d.shown.value.figures) desk),
    )
