use Rattle.std.proofs.lemmas.Result.{IfOk-weaker}
use Rattle.octo_run.proofs.Texts.{prefix_text}
use Rattle.octo_run.proofs.prefix.OnNetworksTask.results.Goals as goal

pub run_levels-requires-sync-R : goal.run_levels-requires-sync-R
run_levels-requires-sync-R g c κs within = c.requires.ready.0

pub returns-clause-tells : goal.returns-clause-tells
returns-clause-tells g c =
    IfOk-weaker c.report_of.result _ _ (λ r has bytes loaded. prefix_text c.args.self.now.options.now c.args.self.now.watch.now bytes c.args.capture.now r loaded (rw c.as_slice-packets.ensures at has)) c.report_of.ensures.report
