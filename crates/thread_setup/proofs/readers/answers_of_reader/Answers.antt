use Rattle.std.proofs.Common.{◌∙◌}
use Rattle.push_history.specs.Journal.{keys_of}
use Rattle.thread_setup.proofs.Beginnings.{has_room, news_more, news_none}
use Rattle.thread_setup.proofs.readers.answers_of_reader.Goals as goal

pub loop-number-init : goal.loop-number-init
loop-number-init c = (news_none c.args.options.now c.args.reader _ c.in_ok-answers.ensures.empty, c.in_ok-answers.ensures.room)

pub loop-number-preserved : goal.loop-number-preserved
loop-number-preserved c =
    let o = c.args.options.now in
    let h = c.loop-number.invariant in
    let e = c.in_ok-new.ensures in (
      news_more o c.args.reader c.loop-number.number c.loop-number.answers.items c.push.new.self.items _ h.0 c.push.ensures.items
          (has_room o.workers c.args.keys (keys_of o) _ c.requires.keys e.front e.upto e.shown) e.reader e.number,
      c.push.ensures.room ∙ h.1,
    )
