use Rattle.push_history.specs.Journal.{keys_of}
use Rattle.thread_setup.proofs.Beginnings.{has_room}
use Rattle.thread_setup.proofs.spare.spare_of.Goals as goal

pub returns : goal.returns
returns g c =
    let o = c.args.options.now in
    let last = c.in_ok-new.ensures in
    record {
      state = c.in_ok-state_of.ensures;
      last = has_room o.workers c.args.keys (keys_of o) c.in_ok-new.field-0 c.requires.keys last.front last.upto last.shown;
      passes = (c.in_ok-new-2.ensures.empty, c.in_ok-new-2.ensures.room);
      sketches = (c.in_ok-new-3.ensures.empty, c.in_ok-new-3.ensures.room);
      refused = (c.in_ok-new-4.ensures.empty, c.in_ok-new-4.ensures.room);
      pushes = (c.in_ok-new-5.ensures.empty, c.in_ok-new-5.ensures.room);
      live = (c.in_ok-new-6.ensures.empty, c.in_ok-new-6.ensures.room);
      answers = (c.in_ok-new-7.ensures.empty, c.in_ok-new-7.ensures.room);
    }
