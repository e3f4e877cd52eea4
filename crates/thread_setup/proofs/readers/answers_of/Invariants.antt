use Rattle.std.proofs.Common.{◌≡◌}
use Rattle.thread_setup.specs.Answers.{AreLists}
use Rattle.thread_setup.proofs.readers.answers_of.Given as goal

abbrev pub invariant-loop-count : goal.invariant-loop-count
invariant-loop-count l = AreLists l.options l.count l.lists.items × (l.lists.room ≡ l.options.readers)
