-- What settling leaves is all that was sent, published.
use Rattle.std.proofs.Common.{◌≡◌, ◌<◌, ◌^◌, ℕ, ℤ, List, length, sym, ap, ◌∙◌, subst, arith}
use Rattle.std.specs.Prelude.{All, map}
use Rattle.std.specs.List.{flat_map}
use mathlib.Core.List.{IsPrefix}
use Rattle.listed.specs.Listed.{Listed}
use Rattle.packet_key.specs.declared.key.FlowKey.{FlowKey}
use Rattle.hash_rows.specs.declared.answer.Answer.{Answer}
use Rattle.hash_rows.specs.declared.options.Options.{Options}
use Rattle.hash_rows.specs.declared.shape.Packet.{Packet}
use Rattle.hash_rows.specs.declared.shape.Push.{Push}
use Rattle.hash_rows.specs.Lawful.{IsLawful}
use Rattle.hash_rows.specs.Rules.{Rules}
use Rattle.push_history.specs.Journal.{rules_in}
use Rattle.push_lane.specs.Views.{LaneView}
use Rattle.push_rule.specs.Stands.{PrivateView}
use Rattle.aggregate.specs.Takens.{AreTaken}
use Rattle.live_state.specs.Fold.{Fit, most, state_after, layout_in}
use Rattle.live_state.specs.declared.layout.Layout.{Layout}
use Rattle.live_view.specs.Views.{WriterView}
use Rattle.thread_ends.specs.Ends.{both_fulls, both_sents}
use Rattle.thread_law.specs.Ran.{AreAnswers}
use Rattle.thread_run.specs.declared.parts.ReaderPart.{ReaderPart}
use Rattle.thread_run.specs.declared.parts.RestPart.{RestPart}
use Rattle.thread_run.specs.declared.parts.WorkerPart.{WorkerPart}
use Rattle.thread_setup.specs.declared.spare.Spare.{Spare}
use Rattle.thread_engine.specs.Ended.{HaveEnded, IsAllPublished}
use Rattle.thread_engine.specs.Tellings.{HaveToldAll}
use Rattle.thread_engine.proofs.Ending.{all_told}
use Rattle.thread_engine.proofs.Leaving.{answers_seen}

module _ {K H : Type 0} (stands : H → ℤ → ℤ → Type 0) (r : Rules) (o : Options) (packets : List Packet) (keys : List FlowKey) (lanes : List LaneView) (workers : List (WorkerPart K H))
    (rest : RestPart K H) (spare : Spare K H) (h : HaveEnded stands r o packets keys lanes workers rest spare)
    (is : r ≡ rules_in o) (lawful : IsLawful o) (small : All (λ p. p.amount < 2 ^ 32) packets)
    (writer : WriterView) (new : Spare K H) (layout : writer.layout ≡ layout_in o) where
  -- the sketches and passes of the workers tell all
  told_by : new.sketches.items ≡ map (λ (p : WorkerPart K H). p.sketch) workers → both_sents new.passes.items ≡ map (λ (p : WorkerPart K H). p.pass.sent) workers
      → both_fulls new.passes.items ≡ map (λ (p : WorkerPart K H). p.pass.fulls) workers → HaveToldAll stands r o packets new.sketches.items (both_sents new.passes.items) (both_fulls new.passes.items)
  told_by sketches sents fulls =
      subst (λ (s : List (PrivateView H)). HaveToldAll stands r o packets s (both_sents new.passes.items) (both_fulls new.passes.items)) (sym sketches)
      (subst (λ (s : List (List Push)). HaveToldAll stands r o packets (map (λ (p : WorkerPart K H). p.sketch) workers) s (both_fulls new.passes.items)) (sym sents)
      (subst (λ (s : List ℕ). HaveToldAll stands r o packets (map (λ (p : WorkerPart K H). p.sketch) workers) (map (λ (p : WorkerPart K H). p.pass.sent) workers) s) (sym fulls)
      (all_told stands r o packets keys lanes workers rest spare h)))

  fits : Fit r writer.layout writer.published → Fit r (layout_in o) writer.published
  fits fit = subst (λ (l : Layout). Fit r l writer.published) layout fit

  pub all_published : new.sketches.items ≡ map (λ (p : WorkerPart K H). p.sketch) workers → both_sents new.passes.items ≡ map (λ (p : WorkerPart K H). p.pass.sent) workers
      → both_fulls new.passes.items ≡ map (λ (p : WorkerPart K H). p.pass.fulls) workers → AreTaken r writer.layout (both_sents new.passes.items) writer.published
      → Fit r writer.layout writer.published → (count : ℕ) → count ≡ length writer.published → count < most → new.state ≡ state_after r writer.layout writer.published
      → new.answers.items ≡ flat_map (λ (p : ReaderPart K H). p.answers.items) rest.readers.items → All (λ (p : ReaderPart K H). IsPrefix p.view.known writer.published) rest.readers.items
      → new.refused ≡ spare.refused → new.pushes ≡ spare.pushes → new.live ≡ spare.live → IsAllPublished stands r o packets writer.published new
  all_published sketches sents fulls taken fit count counted below state answers before refused pushes live =
      let few : length writer.published < 2 ^ 64 = omega (arith, counted, below) in
      record {
        told = told_by sketches sents fulls;
        taken = subst (λ (l : Layout). AreTaken r l (both_sents new.passes.items) writer.published) layout taken;
        fit = fits fit;
        few = few;
        state = state ∙ ap (λ (l : Layout). state_after r l writer.published) layout;
        answers = subst (λ (xs : List Answer). AreAnswers o writer.published xs) (sym answers)
            (answers_seen stands r o packets keys lanes workers rest spare h is lawful small writer.published (fits fit) few before);
        refused = (ap (λ (l : Listed _). l.items) (refused ∙ ap (λ (s : Spare K H). s.refused) h.spare_is) ∙ h.begun.spare.refused.0, ap (λ (l : Listed _). l.room) (refused ∙ ap (λ (s : Spare K H). s.refused) h.spare_is) ∙ h.begun.spare.refused.1);
        pushes = (ap (λ (l : Listed _). l.items) (pushes ∙ ap (λ (s : Spare K H). s.pushes) h.spare_is) ∙ h.begun.spare.pushes.0, ap (λ (l : Listed _). l.room) (pushes ∙ ap (λ (s : Spare K H). s.pushes) h.spare_is) ∙ h.begun.spare.pushes.1);
        live = (ap (λ (l : Listed _). l.items) (live ∙ ap (λ (s : Spare K H). s.live) h.spare_is) ∙ h.begun.spare.live.0, ap (λ (l : Listed _). l.room) (live ∙ ap (λ (s : Spare K H). s.live) h.spare_is) ∙ h.begun.spare.live.1);
      }
