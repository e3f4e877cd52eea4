use Rattle.std.proofs.Common.{take}
use Rattle.std.specs.Prelude.{All}
use Rattle.rounds_audit.specs.Ranges.{IsAnswerInRange}
use Rattle.rounds_audit.proofs.ranges.answers_fit.Given as goal

abbrev pub invariant-loop-answer : goal.invariant-loop-answer
invariant-loop-answer l = All (IsAnswerInRange) (take l.answer-index l.answers)
