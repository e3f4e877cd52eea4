use Rattle.std.proofs.Common.{◌≡◌, ◌++◌}
use Rattle.thread_ends.proofs.answering.move_answers.Given as goal

abbrev pub invariant-loop-answer : goal.invariant-loop-answer
invariant-loop-answer l = (l.into.items ≡ l.fn.into.items ++ l.yielded) × (l.into.room ≡ l.fn.into.room)
