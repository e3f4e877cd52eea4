use Rattle.std.proofs.Common.{◌++◌, [], length, ◌∙◌, sym, ap, subst, arith}
use Rattle.std.specs.Prelude.{All}
use Rattle.std.specs.List.{flat_map}
use mathlib.Core.List.{IsPrefix}
use Rattle.std.proofs.lemmas.List.{flat_map_more}
use Rattle.std.proofs.lemmas.List.Elements.{All-push}
use Rattle.std.proofs.lemmas.Iterator.Adapters.{YieldsList-from_vec}
use Rattle.std.proofs.lemmas.Iterator.Consumers.{YieldsList-end, YieldsList-so_far, YieldsList-turn}
use Rattle.live_state.specs.Copies.{HasRoomFor}
use Rattle.live_view.specs.Views.{WriterView}
use Rattle.thread_ends.proofs.Gathered.{IsOfPair, KnowsFront, as_it_is, at_turn, gives, room_for}
use Rattle.thread_ends.proofs.answering.gather_answers.Goals as goal

pub gather_one-requires-clause-pair : goal.gather_one-requires-clause-pair
gather_one-requires-clause-pair g c κs within =
    let h = c.loop-part.invariant in
    let readers = c.args.readers.items in
    let yielded = c.loop-part.yielded in
    let part = c.in-Some.part in
    let road = YieldsList-from_vec readers (cc) (cc) in
    let turn = YieldsList-turn road yielded c.loop-part.part-iterator c.loop-part.yielded_by c.next.result c.next.new.self part c.in-Some.is c.next.ensures.steps in
    let pair = at_turn (IsOfPair c.args.writer.now) readers (length yielded) part c.requires.pair turn in
    (pair.0 ∙ ap (λ (w : WriterView). w.book) (sym h.writer), pair.1 ∙ ap (λ (w : WriterView). w.layout) (sym h.writer))

pub gather_one-requires-clause-room : goal.gather_one-requires-clause-room
gather_one-requires-clause-room g c κs within =
    subst (λ (w : WriterView). HasRoomFor w.layout.workers c.args.keys.now c.loop-part.last) (sym c.loop-part.invariant.writer) c.loop-part.invariant.room

pub gather_one-requires-clause-answers_room : goal.gather_one-requires-clause-answers_room
gather_one-requires-clause-answers_room g c κs within =
    let h = c.loop-part.invariant in
    let readers = c.args.readers.items in
    let yielded = c.loop-part.yielded in
    let part = c.in-Some.part in
    let road = YieldsList-from_vec readers (cc) (cc) in
    let turn = YieldsList-turn road yielded c.loop-part.part-iterator c.loop-part.yielded_by c.next.result c.next.new.self part c.in-Some.is c.next.ensures.steps in
    let so_far = YieldsList-so_far road yielded c.loop-part.part-iterator c.loop-part.yielded_by in
    let room = room_for gives readers yielded part so_far turn in
    let len = ap length h.answers in
    omega (arith, room, len, c.requires.answers_room.1, h.answers_room)

pub loop-part-preserved : goal.loop-part-preserved
loop-part-preserved g c =
    let h = c.loop-part.invariant in
    let e = c.gather_one.ensures in
    let part = c.in-Some.part in
    record {
      writer = e.writer ∙ h.writer;
      room = subst (λ (w : WriterView). HasRoomFor w.layout.workers c.args.keys.now c.gather_one.new.last) h.writer e.room;
      answers = e.answers ∙ ap (λ l. l ++ part.answers.items) h.answers ∙ flat_map_more gives [] c.loop-part.yielded part;
      answers_room = e.answers_room ∙ h.answers_room;
      before = All-push (KnowsFront c.args.writer.now.published) c.loop-part.yielded part h.before (subst (λ (w : WriterView). IsPrefix part.view.known w.published) h.writer e.before);
    }

pub returns : goal.returns
returns g c =
    let h = c.loop-part.invariant in
    let road = YieldsList-from_vec c.args.readers.items (cc) (cc) in
    let end = YieldsList-end road c.loop-part.yielded c.loop-part.part-iterator c.loop-part.yielded_by c.next.result c.next.new.self c.in-None.is c.next.ensures.steps in
    let all = sym (as_it_is c.loop-part.yielded) ∙ end.0 in
    record {
      writer = h.writer;
      answers = h.answers ∙ ap (flat_map gives) all;
      before = subst (All (KnowsFront c.args.writer.now.published)) all h.before;
    }
