use Rattle.std.proofs.Common.{◌≡◌}
use Rattle.thread_setup.specs.Answers.{AreNew}
use Rattle.thread_setup.proofs.readers.answers_of_reader.Given as goal

abbrev pub invariant-loop-number : goal.invariant-loop-number
invariant-loop-number l = AreNew l.options l.fn.reader l.number l.answers.items × (l.answers.room ≡ l.options.asks)
