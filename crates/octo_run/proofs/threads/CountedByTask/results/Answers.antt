use Rattle.std.proofs.Common.{rules}
use Rattle.std.specs.Prelude.{IfOk}
use Rattle.std.proofs.lemmas.Result.{IfOk-weaker}
use Rattle.octo_run.specs.Results.{HasResults}
use Rattle.octo_run.proofs.Texts.{run_text}
use Rattle.octo_run.proofs.threads.CountedByTask.results.Goals as goal

pub returns-clause-tells : goal.returns-clause-tells
returns-clause-tells g c =
    let results : IfOk c.count.result (HasResults c.args.capture.now c.args.self.now.options.now) = search rules in
    IfOk-weaker c.count.result _ _ (λ r has bytes loaded. run_text c.args.self.now.options.now bytes c.args.capture.now r loaded has) results
