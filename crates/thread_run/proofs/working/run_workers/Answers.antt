use Rattle.std.proofs.Common.{◌<◌, length, rules, arith, slice_index_or}
use denote.Exit.{no}
use denote.Param.Send.{arg_send, arg_sync, copied_send, copied_sync, param_send, param_sync}
use Rattle.push_lane.specs.Views.{LaneView}
use Rattle.thread_run.specs.Workers.{IsReady}
use Rattle.thread_run.proofs.working.run_workers.Goals as goal

pub for_each_mut-requires-clause-accepts : goal.for_each_mut-requires-clause-accepts
for_each_mut-requires-clause-accepts g c κs within = λ i p below at.
    let inside : i < length c.args.lanes.now = omega (arith, c.requires.len) in
    let ready : (l : LaneView) → IsReady g.K.Kind.stands g.K.Kind.rules c.args.options.now c.args.packets.now (slice_index_or c.args.lanes.now i l) p.now = λ l. rw at (c.requires.ready.each i l p.now inside) in (
      (c.requires.shape, c.requires.few, c.requires.lanes, inside, ready),
      (
        param_send 0 _ (arg_send _ no _ c.type_bounds.send-K),
        copied_send 3 _ c.type_bounds.send-K-Held,
        param_sync 0 _ (arg_sync _ no _ c.type_bounds.sync-K),
        param_sync 1 _ (arg_sync _ no _ c.type_bounds.sync-R),
        param_sync 2 _ (arg_sync _ no _ c.type_bounds.sync-G),
        copied_sync 3 _ c.type_bounds.sync-K-Held,
      ),
    )

pub returns : goal.returns
returns g c = record {
  worked = record {
    len = search rules;
    each = λ i l p lt.
        let below : i < length c.args.parts.now = omega (arith, lt, c.requires.len) in
        let at = (c.for_each_mut.ensures i p below).1 in
        rw (← at.argument_is, ← at.left) (at.call l);
  };
}
