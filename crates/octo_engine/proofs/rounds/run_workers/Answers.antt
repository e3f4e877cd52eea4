use Rattle.std.proofs.Common.{length}
use denote.Exit.{no}
use denote.Param.Send.{arg_send, arg_sync, copied_send, copied_sync, param_send, param_sync}
use Rattle.octo_engine.specs.Parts.{IsReadyForBlock}
use Rattle.octo_engine.proofs.rounds.run_workers.Goals as goal

pub for_each_mut-requires-clause-accepts : goal.for_each_mut-requires-clause-accepts
for_each_mut-requires-clause-accepts g c κs within = λ i p below at.
    let ready : IsReadyForBlock c.args.options.now (length c.args.packets.now) p.now = rw at (c.requires.sound i p.now below) in (
      (c.requires.lawful, ready),
      (
        param_send 0 _ (arg_send _ no _ c.type_bounds.send-K),
        copied_send 1 _ c.type_bounds.send-K-Held,
        param_sync 0 _ (arg_sync _ no _ c.type_bounds.sync-K),
        copied_sync 1 _ c.type_bounds.sync-K-Held,
      ),
    )
