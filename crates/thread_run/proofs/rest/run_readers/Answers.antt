use Rattle.std.proofs.Common.{◌<◌, rules, arith}
use Rattle.std.specs.Prelude.{All}
use Rattle.live_state.specs.Copies.{HasRoomFor}
use Rattle.thread_run.proofs.rest.run_readers.Goals as goal

pub for_each_mut-requires-clause-accepts : goal.for_each_mut-requires-clause-accepts
for_each_mut-requires-clause-accepts g c κs within = λ i p below at.
    let small : i < 65536 = omega (arith, below, c.requires.few) in
    let room : All (HasRoomFor p.now.view.layout.workers c.args.keys.now) p.now.answers.items = rw at (c.requires.room.each i p.now below) in
    ((small, room), search rules)

pub returns : goal.returns
returns g c = record {
  asked = record {
    len = search rules;
    each = λ i p lt.
        let at = (c.for_each_mut.ensures i p lt).1 in
        rw (← at.argument_is, ← at.left) at.call;
  };
}
