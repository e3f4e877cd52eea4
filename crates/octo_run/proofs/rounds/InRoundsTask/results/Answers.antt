use Rattle.std.proofs.lemmas.Result.{IfOk-weaker}
use Rattle.octo_run.proofs.Texts.{run_text}
use Rattle.octo_run.proofs.rounds.InRoundsTask.results.Goals as goal

pub results_in_rounds-requires-sync-R : goal.results_in_rounds-requires-sync-R
results_in_rounds-requires-sync-R g c κs within = c.requires.ready.0

pub returns-clause-tells : goal.returns-clause-tells
returns-clause-tells g c =
    IfOk-weaker c.results_in_rounds.result _ _ (λ r has bytes loaded. run_text c.args.self.now.options.now bytes c.args.capture.now r loaded has) c.results_in_rounds.ensures.results
