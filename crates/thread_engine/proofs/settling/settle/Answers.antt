use Rattle.std.proofs.Common.{◌≡◌, ◌∙◌, All, List, length, ap, subst, sym, arith}
use Rattle.hash_rows.specs.declared.answer.Answer.{Answer}
use Rattle.listed.specs.Listed.{Listed}
use Rattle.push_lane.specs.Views.{BothView, LaneView, OutView}
use Rattle.aggregate.specs.Takens.{AreTaken, takens}
use Rattle.live_state.specs.Fold.{Fit, state_after}
use Rattle.live_view.specs.Views.{WriterView}
use Rattle.octo_engine.proofs.Beginning.{rules_are}
use Rattle.thread_ends.specs.Ends.{both_sents, kept_in}
use Rattle.thread_law.specs.Ran.{HasRunTo}
use Rattle.thread_engine.specs.Left.{AreDrained}
use Rattle.thread_engine.proofs.Ending as ending
use Rattle.thread_engine.proofs.Leaving.{answers_len, layout_is, named_sents, readers_pair, taken_rest}
use Rattle.thread_engine.proofs.Publishing.{all_published}
use Rattle.thread_engine.proofs.settling.settle.Goals as goal

pub publish_rest-requires-clause-ids : goal.publish_rest-requires-clause-ids
publish_rest-requires-clause-ids g c κs within =
    ending.ids g.K.Kind.stands g.K.Kind.rules c.args.options.now c.args.packets.now c.args.keys.now.items c.args.lanes.items c.args.workers.items c.args.rest c.args.spare c.requires.ended

pub publish_rest-requires-clause-named : goal.publish_rest-requires-clause-named
publish_rest-requires-clause-named g c κs within =
    let kind = g.met.K.Kind g.world.𝓛 g.world.𝓜 g.world.𝓡 ((λ s x. x), (λ x. x), (λ x. x), (λ x. x)) in
    let o = c.args.options.now in
    let is = rules_are g.K.Kind.rules o g.K.Kind.sketch kind.is_sketch c.requires.sketch in
    named_sents g.K.Kind.stands g.K.Kind.rules o c.args.packets.now c.args.keys.now.items c.args.lanes.items c.args.workers.items c.args.rest c.args.spare c.requires.ended is c.requires.lawful c.requires.amounts _
    (ap (λ (w : WriterView). w.layout) c.into_parts-writer.ensures.writer
    ∙ layout_is g.K.Kind.stands g.K.Kind.rules o c.args.packets.now c.args.keys.now.items c.args.lanes.items c.args.workers.items c.args.rest c.args.spare c.requires.ended)

pub publish_rest-requires-clause-taken : goal.publish_rest-requires-clause-taken
publish_rest-requires-clause-taken g c κs within =
    let r = g.K.Kind.rules in
    let w = c.args.rest.fold.aggregator.writer in
    subst (λ (v : WriterView). AreTaken r v.layout (takens c.into_parts-writer.result.1.items) (kept_in v)) (sym c.into_parts-writer.ensures.writer)
    (subst (λ (outs : List OutView). AreTaken r w.layout (takens outs) (kept_in w)) (sym c.into_parts-writer.ensures.outs)
    (taken_rest g.K.Kind.stands r c.args.options.now c.args.packets.now c.args.keys.now.items c.args.lanes.items c.args.workers.items c.args.rest c.args.spare c.requires.ended c.if-failed.false))

pub gather_answers-requires-clause-pair : goal.gather_answers-requires-clause-pair
gather_answers-requires-clause-pair g c κs within = λ k d lt.
    let p = readers_pair g.K.Kind.stands g.K.Kind.rules c.args.options.now c.args.packets.now c.args.keys.now.items c.args.lanes.items c.args.workers.items c.args.rest c.args.spare c.requires.ended k d lt in
    let pair = c.publish_rest.ensures.pair in
    let was = c.into_parts-writer.ensures.writer in
    (p.0 ∙ sym (pair.0 ∙ ap (λ (w : WriterView). w.book) was), p.1 ∙ sym (pair.1 ∙ ap (λ (w : WriterView). w.layout) was))

pub gather_answers-requires-clause-answers_room : goal.gather_answers-requires-clause-answers_room
gather_answers-requires-clause-answers_room g c κs within =
    let h = c.requires.ended in
    let many = answers_len g.K.Kind.stands g.K.Kind.rules c.args.options.now c.args.packets.now c.args.keys.now.items c.args.lanes.items c.args.workers.items c.args.rest c.args.spare h in
    let same = c.publish_rest.ensures.rooms.answers ∙ ap (λ s. s.answers) h.spare_is in (
      ap (λ (l : Listed Answer). l.items) same ∙ h.begun.spare.answers.0,
      omega (arith, many, ap (λ (l : Listed Answer). l.room) same, h.begun.spare.answers.1),
    )

pub conclude-settled-requires-clause-published : goal.conclude-settled-requires-clause-published
conclude-settled-requires-clause-published g c κs within =
    let kind = g.met.K.Kind g.world.𝓛 g.world.𝓜 g.world.𝓡 ((λ s x. x), (λ x. x), (λ x. x), (λ x. x)) in
    let o = c.args.options.now in
    let r = g.K.Kind.rules in
    let is = rules_are r o g.K.Kind.sketch kind.is_sketch c.requires.sketch in
    let e = c.publish_rest.ensures in
    let w = c.publish_rest.new.writer in
    let same = c.gather_answers.ensures.writer in
    let layout = e.pair.1 ∙ ap (λ (v : WriterView). v.layout) c.into_parts-writer.ensures.writer ∙ layout_is g.K.Kind.stands g.K.Kind.rules o c.args.packets.now c.args.keys.now.items c.args.lanes.items c.args.workers.items c.args.rest c.args.spare c.requires.ended in (
      w.published,
      all_published g.K.Kind.stands g.K.Kind.rules o c.args.packets.now c.args.keys.now.items c.args.lanes.items c.args.workers.items c.args.rest c.args.spare c.requires.ended is c.requires.lawful c.requires.amounts w _ layout
          e.sketches e.sents e.fulls c.in-Ok.ensures.published (subst (λ (v : WriterView). Fit r v.layout v.published) same c.copy_state.ensures.fit)
          c.folded-folded.result (c.folded-folded.ensures.length ∙ ap (λ (v : WriterView). length v.published) (c.copy_state.ensures.same ∙ same)) c.folded-folded.ensures.room
          (c.copy_state.ensures.fold ∙ ap (λ (v : WriterView). state_after r v.layout v.published) same) c.gather_answers.ensures.answers c.gather_answers.ensures.before
          e.rooms.refused e.rooms.pushes e.rooms.live,
    )

pub returns-clause-drained : goal.returns-clause-drained
returns-clause-drained g c =
    let o = c.args.options.now in
    let h = c.requires.ended in
    subst (λ (ps : List BothView). AreDrained o c.args.lanes.items ps c.conclude-settled.result.0.lists.refused.items) (sym c.conclude-settled.ensures.passes) (record {
      lanes_len = ending.lanes_len g.K.Kind.stands g.K.Kind.rules o c.args.packets.now c.args.keys.now.items c.args.lanes.items c.args.workers.items c.args.rest c.args.spare h;
      capacity = subst (λ (ls : List LaneView). All (λ l. l.capacity ≡ o.lane) ls) (sym h.lanes_are) h.begun.capacity;
      ends = c.publish_rest.ensures.ids;
      drained = c.in-Ok.ensures.drained;
      fulls = c.conclude-settled.ensures.fulls;
    })

pub returns-clause-ran : goal.returns-clause-ran
returns-clause-ran g c =
    let kind = g.met.K.Kind g.world.𝓛 g.world.𝓜 g.world.𝓡 ((λ s x. x), (λ x. x), (λ x. x), (λ x. x)) in
    let o = c.args.options.now in
    let r = g.K.Kind.rules in
    let is = rules_are r o g.K.Kind.sketch kind.is_sketch c.requires.sketch in
    let e = c.publish_rest.ensures in
    let w = c.publish_rest.new.writer in
    let same = c.gather_answers.ensures.writer in
    let layout = e.pair.1 ∙ ap (λ (v : WriterView). v.layout) c.into_parts-writer.ensures.writer ∙ layout_is g.K.Kind.stands g.K.Kind.rules o c.args.packets.now c.args.keys.now.items c.args.lanes.items c.args.workers.items c.args.rest c.args.spare c.requires.ended in
    let settled = c.conclude-settled.result.0 in
    let whole = all_published g.K.Kind.stands g.K.Kind.rules o c.args.packets.now c.args.keys.now.items c.args.lanes.items c.args.workers.items c.args.rest c.args.spare c.requires.ended is c.requires.lawful c.requires.amounts w _ layout
    e.sketches e.sents e.fulls c.in-Ok.ensures.published (subst (λ (v : WriterView). Fit r v.layout v.published) same c.copy_state.ensures.fit)
    c.folded-folded.result (c.folded-folded.ensures.length ∙ ap (λ (v : WriterView). length v.published) (c.copy_state.ensures.same ∙ same)) c.folded-folded.ensures.room
    (c.copy_state.ensures.fold ∙ ap (λ (v : WriterView). state_after r v.layout v.published) same) c.gather_answers.ensures.answers c.gather_answers.ensures.before
    e.rooms.refused e.rooms.pushes e.rooms.live in
    let ran = c.conclude-settled.ensures.ran w.published whole in
    subst (λ (v : WriterView). HasRunTo c.args.packets.now o (both_sents c.conclude-settled.result.1.items) v.published settled.lists)
    (sym (c.copy_state.ensures.same ∙ same))
    (subst (λ (ps : List BothView). HasRunTo c.args.packets.now o (both_sents ps) w.published settled.lists)
    (sym c.conclude-settled.ensures.passes) ran)
