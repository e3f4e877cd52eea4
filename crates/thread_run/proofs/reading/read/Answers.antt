use Rattle.std.proofs.Common.{rules, ◌∙◌, ◌<◌, length, refl, arith}
use Rattle.thread_run.proofs.Asks.{asked_more, asked_none, prefix_self, prefix_trans}
use Rattle.thread_run.proofs.reading.read.Goals as goal

pub loop-number-init : goal.loop-number-init
loop-number-init g c = record {
  book = refl;
  layout = refl;
  known = prefix_self c.args.part.now.view.known;
  room = c.requires.room;
  asked = asked_none g.K.Kind.rules c.args.keys.now c.args.part.now.answers.items c.args.part.now.view;
}

pub loop-number-preserved : goal.loop-number-preserved
loop-number-preserved g c =
    let h = c.loop-number.invariant in
    let e = c.ask_once.ensures in
    let p = c.loop-number.part in
    let inside : c.loop-number.number < length p.answers.items = omega (arith, h.asked.len, c.loop-number-test.true, c.len-number-end.ensures) in
    record {
      book = e.pair.0 ∙ h.book;
      layout = e.pair.1 ∙ h.layout;
      known = prefix_trans c.args.part.now.view.known p.view.known c.ask_once.new.view.known h.known e.known;
      room = e.room;
      asked = asked_more g.K.Kind.rules c.args.keys.now c.args.part.now.answers.items p.view c.ask_once.new.view p.answers.items c.ask_once.new.answers.items c.loop-number.number h.asked
          e.pair.1 e.known e.len inside e.others e.rest e.one;
    }
