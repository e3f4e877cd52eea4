use Rattle.capture_load.proofs.Whole.{generated_fine, generated_whole as lemma}
use Rattle.capture_load.proofs.laws.generated_whole.Goals as goal

pub returns-clause-whole : goal.returns-clause-whole
returns-clause-whole c = lemma

pub returns-clause-fine : goal.returns-clause-fine
returns-clause-fine c = generated_fine
