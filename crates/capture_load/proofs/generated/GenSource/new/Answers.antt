use Rattle.std.proofs.Common.{ap, ◌++◌, List, ℕ}
use Rattle.capture_load.specs.Generated.{generated, generated_from}
use Rattle.capture_load.proofs.generated.GenSource.new.Goals as goal

pub returns : goal.returns
unfolding generated
returns c = ap (λ (t : List ℕ). t ++ generated_from c.args.start 0 c.args.records) c.put-end.ensures.front
